-- The local test of a labelling: one test for each vertex (its label is blank, or what its own hyperedge offers) and one for each hyperedge (its head's label does
-- not come after its offer). All pass exactly if the labelling is the fixpoint. This is how answers are checked without settling. Assumes nothing: these are definitions.
use Rattle.std.specs.Prelude.{Bool, true, false, ℕ, zero, suc, ltb, eqb, Some, None}
use Rattle.weights.specs.declared.Label.{Label}
use Rattle.weights.specs.Measures.{Algebra}
use Rattle.weights.specs.Choice.{pick}
use Rattle.weights.specs.Labels.{ahead_of}
use Rattle.provenance.specs.Hypergraph.{Hypergraph}
use Rattle.provenance.specs.Labelling.{weight_in, depth_in}
use Rattle.provenance.specs.BestFirst.{offer}
use Rattle.weights.specs.Offers.{Offer}

-- p holds below n
unfoldable pub every : (ℕ → Bool) → ℕ → Bool
every p zero = true
every p (suc k) = pick (p k) (every p k) false

-- the offer is of this weight and depth
abbrev pub gives : Offer → (w d : ℕ) → Bool
gives None w d = false
gives (Some x) w d = pick (eqb x.weight.0 w) (eqb x.depth d) false

-- a head with the label l does not come after what one of its hyperedges offers
abbrev pub keeps_up : Algebra → Label → Offer → Bool
keeps_up A l None = true
keeps_up A l (Some x) = pick (eqb l.depth 0) false (ahead_of A l x)

module _ (A : Algebra) (H : Hypergraph) (own : ℕ → ℕ) (ls : ℕ → Label) where
  -- the label of v is blank, or what its own hyperedge offers
  unfoldable pub vertex_right : ℕ → Bool
  vertex_right v =
      pick (eqb (ls v).depth 0)
      (pick (eqb (ls v).weight.0 0) (eqb (ls v).edge.0 0) false)
      (pick (ltb (ls v).edge.0 H.edges)
      (pick (eqb (H.head (ls v).edge.0) v) (gives (offer A H own (weight_in ls) (depth_in ls) (ls v).edge.0) (ls v).weight.0 (ls v).depth) false)
      false)

  -- the label of e's head does not come after what e offers
  unfoldable pub edge_right : ℕ → Bool
  edge_right e = keeps_up A (ls (H.head e)) (offer A H own (weight_in ls) (depth_in ls) e)
