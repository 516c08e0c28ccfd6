-- Hypergraphs whose vertices are in topological order, and one walk up the vertices that labels them (document 02, 2026-08: "every line lists only parts with numbers
-- below its head"; "by one walk up the part numbers"). Assumes nothing: these are definitions.
use mathlib.Core.List.{Memᴰ}
use Rattle.std.specs.Prelude.{ℕ, zero, suc, ◌<◌, eqb, None}
use Rattle.weights.specs.Measures.{Algebra}
use Rattle.weights.specs.Choice.{pick}
use Rattle.columns.specs.Columns.{Answers}
use Rattle.provenance.specs.Hypergraph.{Hypergraph}
use Rattle.provenance.specs.Labelling.{weight_in, depth_in}
use Rattle.provenance.specs.BestFirst.{labels, blank, place, earlier, offer}
use Rattle.weights.specs.Offers.{Offer}

-- every listed vertex of every hyperedge, struck or not, is below its head
pub record InOrder (H : Hypergraph) : Type 0 where
  pub below : (e : ℕ) → e < H.edges → (u : ℕ) → Memᴰ u (H.tail e) → u < H.head e

module _ (A : Algebra) (H : Hypergraph) (own : ℕ → ℕ) where
  -- the candidate of hyperedge e, where it is ready and v is its head
  unfoldable pub offer_to : (weight depth : ℕ → ℕ) → (v e : ℕ) → Offer
  offer_to w d v e = pick (eqb (H.head e) v) (offer A H own w d e) None

  -- the first of those of the hyperedges below k
  unfoldable pub first : (weight depth : ℕ → ℕ) → (v k : ℕ) → Offer
  first w d v zero = None
  first w d v (suc k) = earlier A (first w d v k) (offer_to w d v k)

  -- the vertices below v are labelled, one after the other
  unfoldable pub walk : ℕ → Answers
  walk zero = blank H.vertices
  walk (suc v) = place A H own (walk v) (first (weight_in (labels (walk v))) (depth_in (labels (walk v))) v H.edges)

  unfoldable pub in_order : Answers
  in_order = walk H.vertices
