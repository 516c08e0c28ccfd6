-- Downward paths of a make-up: the lines from its root down to one of its nodes. What is greatest along them is the days of a make-up. Assumes nothing: these are
-- definitions.
use Rattle.std.specs.Prelude.{◌≡◌, ◌⊎◌, List, [], ◌∷◌, ℕ, ◌≤◌}
use Rattle.provenance.specs.Hypergraph.{Hypergraph, Derivation, Derivations, node, none, more}

-- a list begins with e, and P holds of the rest; a list is at its end
abbrev pub Begins : ℕ → (List ℕ → Type 0) → List ℕ → Type 0
Begins e P [] = ⊥
Begins e P (x ∷ xs) = (x ≡ e) × P xs

abbrev pub Ends : List ℕ → Type 0
Ends [] = Unit {0}
Ends (x ∷ xs) = ⊥

module _ {H : Hypergraph} where
  -- es are the lines from the root of d down to one of its nodes
  unfoldable mutual
    pub Path : {v : ℕ} → Derivation H v → List ℕ → Type 0
    Path (node e s h ds) es = Begins e (λ xs. Onward ds xs) es

    -- they go on in one of the subtrees, or end
    pub Onward : {vs : List ℕ} → Derivations H vs → List ℕ → Type 0
    Onward none es = Ends es
    Onward (more d ds) es = Path d es ⊎ Onward ds es

  -- x is the greatest that f is of a downward path of d: it is that of one, and none has more
  pub record Greatest (f : List ℕ → ℕ) {v : ℕ} (d : Derivation H v) (x : ℕ) : Type 0 where
    pub lines : List ℕ
    pub path : Path d lines
    pub reached : f lines ≡ x
    pub most : (es : List ℕ) → Path d es → f es ≤ x
