-- Counts of a make-up: its nodes, and how often a line stands in it. And what own figures along a list of lines come to. The paper's "Make-ups, figures, depth"
-- (Cost, Days) and document 02's 2026-10 (grade), said of bills. Assumes nothing: these are definitions.
use Rattle.std.specs.Prelude.{List, [], ◌∷◌, ℕ, ◌+◌, min}
use Rattle.weights.specs.Figures.{greatest, capped}
use Rattle.provenance.specs.Hypergraph.{Hypergraph, Derivation, Derivations, node, none, more}
use Rattle.provenance.specs.Counting.{once, total}

module _ {H : Hypergraph} where
  -- the nodes of a make-up
  unfoldable mutual
    pub nodes : {v : ℕ} → Derivation H v → ℕ
    nodes (node e s h ds) = all_nodes ds + 1

    pub all_nodes : {vs : List ℕ} → Derivations H vs → ℕ
    all_nodes none = 0
    all_nodes (more d ds) = nodes d + all_nodes ds

  -- how often line x stands in it
  unfoldable mutual
    pub uses : ℕ → {v : ℕ} → Derivation H v → ℕ
    uses x (node e s h ds) = once x e + all_uses x ds

    pub all_uses : ℕ → {vs : List ℕ} → Derivations H vs → ℕ
    all_uses x none = 0
    all_uses x (more d ds) = uses x d + all_uses x ds

-- what the own figures along a list of lines come to: their sum, capped
abbrev pub amount : (own : ℕ → ℕ) → List ℕ → ℕ
amount own es = capped (total own es)

-- the least of them; of none, the greatest own figure
unfoldable pub least_own : (own : ℕ → ℕ) → List ℕ → ℕ
least_own own [] = greatest
least_own own (e ∷ es) = min (own e) (least_own own es)
