-- The value of a line, worked out once from a labelling (document 02, 2026-04), and the depth that it gives: which lines have one, and what a line offers in terms of
-- them. Assumes nothing: these are definitions.
use Rattle.std.specs.Prelude.{◌≡◌, Bool, true, false, ℕ, eqb, Some, None}
use mathlib.Core.List.{List, Memᴰ}
use Rattle.weights.specs.declared.Label.{Label}
use Rattle.weights.specs.Figures.{none}
use Rattle.weights.specs.Measures.{Algebra}
use Rattle.weights.specs.Choice.{pick}
use Rattle.weights.specs.Labels.{label, ahead_of}
use Rattle.provenance.specs.Hypergraph.{Hypergraph}
use Rattle.provenance.specs.Labelling.{weight_in, depth_in, value_of, height_of}
use Rattle.weights.specs.Offers.{Offer}

module _ (A : Algebra) (H : Hypergraph) (own : ℕ → ℕ) (ls : ℕ → Label) where
  abbrev pub value : ℕ → ℕ
  value e = value_of A (H.live e) (own e) (H.tail e) (weight_in ls) (depth_in ls)

abbrev pub height : Hypergraph → (ℕ → Label) → ℕ → ℕ
height H ls e = height_of (H.live e) (H.tail e) (depth_in ls)

-- a list has a part of depth 0
pub record UnmadeIn (ls : ℕ → Label) (vs : List ℕ) : Type 0 where
  pub part : ℕ
  pub listed : Memᴰ part vs
  pub zero : (ls part).depth ≡ 0

-- a line has no value: it is struck, or it lists a part of depth 0
pub data Valueless (H : Hypergraph) (ls : ℕ → Label) (e : ℕ) : Type 0 where
  struck : H.live e ≡ false → Valueless H ls e
  lists : UnmadeIn ls (H.tail e) → Valueless H ls e

-- what a line of this value and height offers
abbrev pub offer_at : (value height e : ℕ) → Offer
offer_at x h e = pick (eqb x none) None (Some (label x h e))

-- a part of this figure and of a depth above 0 has what a line of this value and height offers: a line without a value has height 0, which is no such part's depth
abbrev pub gives_at : (value height : ℕ) → (w d : ℕ) → Bool
gives_at x h w d = pick (eqb x w) (eqb h d) false

-- a head with the label l does not come after what its line e of this value and height offers: nothing, at height 0
abbrev pub keeps_up_at : Algebra → Label → (value height e : ℕ) → Bool
keeps_up_at A l x h e = pick (eqb h 0) true (pick (eqb l.depth 0) false (ahead_of A l (label x h e)))
