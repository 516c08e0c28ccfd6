-- The columns that `offers::line_values` leaves, place by place, and the depth that a line gives. Assumes nothing.
use mathlib.Core.Path.{◌≡◌, refl, sym, ◌∙◌, ap}
use mathlib.Core.Bool.{Bool, true, false}
use mathlib.Core.List.{List}
use mathlib.Core.Logic.{⊎_elim}
use Prim.Native.Nat.{ℕ, ◌+◌, ◌<◌}
use native.Mathlib.Omega.{arith}
use lib.ListN.{length, drop}
use lib.Seq.{drop_at}
use Rattle.weights.specs.declared.Measure.{Measure}
use Rattle.weights.specs.Choice.{pick}
use Rattle.weights.specs.Figures.{none}
use Rattle.weights.specs.Measures.{algebra, weigh}
use Rattle.columns.specs.Columns.{Answers, Columns, cell, own_at, tail_at}
use Rattle.columns.specs.Filled.{filled}
use Rattle.columns.specs.Right.{RightTable}
use Rattle.provenance.specs.Labelling.{Ready, depth_in, greatest_depth, none_zero, tail-weights, value_of, height_of}
use Rattle.provenance.specs.BestFirst.{labels}
use Rattle.provenance.specs.Values.{value, height, Valueless}
use Rattle.provenance.proofs.Values.{value_figure, value_none, one_of_both, value_finite}
use Rattle.tables.specs.Table.{hypergraph}
use Rattle.offers.specs.Values.{below, value_at, height_at}
use Rattle.offers.proofs.Values.{length-below, filled_at}

module _ (m : Measure) (c : Columns) (t : RightTable c) (a : Answers) (column : List ℕ) where
  abbrev f : ℕ → ℕ
  f = value_at m c.own c.strikes c.spans c.tails a.weights a.depths

  abbrev h : ℕ → ℕ
  h = height_at m c.own c.strikes c.spans c.tails a.weights a.depths

  pub value_placed : (e : ℕ) → e < length c.heads → cell (filled (below f (length c.own)) column) e ≡ f e
  value_placed e l = filled_at f column (length c.own) e (omega (arith, t.level.own))

  pub height_placed : (e : ℕ) → e < length c.heads → cell (filled (below h (length c.own)) column) e ≡ h e
  height_placed e l = filled_at h column (length c.own) e (omega (arith, t.level.own))

  pub kept_after : (g : ℕ → ℕ) → drop (length c.heads) (filled (below g (length c.own)) column) ≡ drop (length c.heads) column
  unfolding filled
  kept_after g =
      let n = length-below g (length c.own) ∙ t.level.own in
      drop_at (below g (length c.own)) (drop (length (below g (length c.own))) column) (length c.heads) n ∙ ap (λ (z : ℕ). drop z column) n

module _ (m : Measure) (c : Columns) (a : Answers) (e : ℕ) where
  abbrev x : ℕ
  x = weigh (algebra m) (own_at c e) (tail-weights (labels a) (tail_at c e))

  abbrev g : ℕ
  g = greatest_depth (depth_in (labels a)) (tail_at c e) + 1

  finite : ¬ (x ≡ none)
  finite = (value_finite m (own_at c e) (tail-weights (labels a) (tail_at c e))).1

  -- a value that is none is that of a line without one
  pub none_valueless : e < length c.heads → value (algebra m) (hypergraph c) (own_at c) (labels a) e ≡ none → Valueless (hypergraph c) (labels a) e
  none_valueless l q =
      ⊎_elim (λ r. absurd (finite (sym (value_figure (algebra m) (hypergraph c) (own_at c) (labels a) e r) ∙ q))) (λ v. v) (one_of_both (hypergraph c) (labels a) e l)

  -- value and height are told by the same two tests
  deep : (p q : Bool) → pick p (pick q x none) none ≡ x → pick p (pick q g 0) 0 ≡ g
  deep true true r = refl
  deep true false r = absurd (finite (sym r))
  deep false q r = absurd (finite (sym r))

  shallow : (p q : Bool) → pick p (pick q x none) none ≡ none → pick p (pick q g 0) 0 ≡ 0
  shallow true true r = absurd (finite r)
  shallow true false r = refl
  shallow false q r = refl

  pub height_ready : Ready (hypergraph c) (labels a) e → height (hypergraph c) (labels a) e ≡ g
  unfolding value_of height_of
  height_ready r = deep ((hypergraph c).live e) (none_zero (depth_in (labels a)) (tail_at c e)) (value_figure (algebra m) (hypergraph c) (own_at c) (labels a) e r)

  pub height_valueless : Valueless (hypergraph c) (labels a) e → height (hypergraph c) (labels a) e ≡ 0
  unfolding value_of height_of
  height_valueless v = shallow ((hypergraph c).live e) (none_zero (depth_in (labels a)) (tail_at c e)) (value_none (algebra m) (hypergraph c) (own_at c) (labels a) e v)
