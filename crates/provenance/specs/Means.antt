-- What a part's entry means: the paper's "Make-ups, figures, depth", in its own terms and with no word of labels of other parts. Assumes nothing: these are
-- definitions.
use Rattle.std.specs.Prelude.{◌≡◌, List, ℕ, ◌≤◌}
use Rattle.weights.specs.declared.Label.{Label}
use Rattle.weights.specs.Measures.{Algebra}
use Rattle.weights.specs.Labels.{unmade}
use Rattle.weights.specs.Laws.{NoWorse}
use Rattle.provenance.specs.Hypergraph.{Hypergraph, Derivation, Derivations, node, none, more, weight, Thrifty, depth, root}

module _ (A : Algebra) (H : Hypergraph) (own : ℕ → ℕ) (l : Label) (v : ℕ) where
  -- a thrifty make-up has the entry's figure, depth and line; no make-up is better; no thrifty one is shallower; no thrifty one of that depth has a lower line
  -- at its root
  pub record Derivable : Type 0 where
    pub shown : Derivation H v
    pub thrifty : Thrifty A own shown
    pub weighs : weight A own shown ≡ l.weight.0
    pub deep : depth shown ≡ l.depth
    pub rooted : root shown ≡ l.edge.0
    pub best : (d : Derivation H v) → NoWorse A.leq l.weight.0 (weight A own d)
    pub shallow : (d : Derivation H v) → Thrifty A own d → l.depth ≤ depth d
    pub first : (d : Derivation H v) → Thrifty A own d → depth d ≤ l.depth → l.edge.0 ≤ root d

  -- unmade is figure 0, depth 0, line 0, for a part that has no make-up
  pub data Means : Type 0 where
    underivable : l ≡ unmade → ¬ Derivation H v → Means
    derivable : Derivable → Means

module _ {H : Hypergraph} (ls : ℕ → Label) where
  -- d is the chosen make-up: it uses the chosen line of every part in it
  unfoldable mutual
    pub Follows : {v : ℕ} → Derivation H v → Type 0
    Follows (node {v = v} e s h ds) = ((ls v).edge.0 ≡ e) × AllFollow ds

    pub AllFollow : {vs : List ℕ} → Derivations H vs → Type 0
    AllFollow none = Unit {0}
    AllFollow (more d ds) = Follows d × AllFollow ds
