-- The chosen make-up of a part, and its bill as it is computed from the labels. The paper's "Its chosen make-up uses the chosen line of every part in it". Assumes
-- nothing: these are definitions.
use Rattle.std.specs.Prelude.{◌≡◌, List, [], ◌∷◌, ◌++◌, ℕ, zero, suc}
use Rattle.weights.specs.declared.Label.{Label}
use Rattle.weights.specs.Measures.{Algebra}
use Rattle.provenance.specs.Hypergraph.{Hypergraph, Derivation, weight, Thrifty, depth}
use Rattle.provenance.specs.Means.{Follows}

-- the bill of v: its chosen hyperedge, then the bill of each vertex of its tail, in order. `fuel` is at least v's depth
unfoldable pub bills : (ℕ → List ℕ) → List ℕ → List ℕ
bills f [] = []
bills f (v ∷ vs) = f v ++ bills f vs

unfoldable pub bill : Hypergraph → (ℕ → Label) → (fuel v : ℕ) → List ℕ
bill H ls zero v = []
bill H ls (suc fuel) v = (ls v).edge.0 ∷ bills (bill H ls fuel) (H.tail (ls v).edge.0)

module _ (A : Algebra) {H : Hypergraph} (own : ℕ → ℕ) (ls : ℕ → Label) where
  -- what holds of the chosen make-up d of v
  pub record Supports {v : ℕ} (d : Derivation H v) : Type 0 where
    pub weighs : weight A own d ≡ (ls v).weight.0
    pub deep : depth d ≡ (ls v).depth
    pub thrifty : Thrifty A own d

module _ (H : Hypergraph) (ls : ℕ → Label) where
  -- the chosen make-up of v
  pub record ChosenDerivation (v : ℕ) : Type 0 where
    pub tree : Derivation H v
    pub follows : Follows ls tree
