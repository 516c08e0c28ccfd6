-- Document 02, change request 2026-04. Assumes nothing.
use mathlib.Core.Path.{◌≡◌, sym, ◌∙◌}
use mathlib.Core.List.{List}
use mathlib.Core.Logic.{◌⊎◌, ◌↔◌}
use Prim.Native.Nat.{ℕ, ◌≤◌, ◌<◌, ◌+◌}
use lib.ListN.{length, drop}
use Rattle.weights.specs.declared.Measure.{Measure}
use Rattle.weights.specs.Figures.{none}
use Rattle.weights.specs.Measures.{algebra, weigh}
use Rattle.columns.specs.Columns.{Answers, Columns, own_at, tail_at, cell}
use Rattle.columns.specs.Filled.{filled}
use Rattle.columns.specs.Right.{RightTable}
use Rattle.provenance.specs.Labelling.{Ready, tail-weights, depth_in, greatest_depth}
use Rattle.provenance.specs.BestFirst.{labels}
use Rattle.tables.specs.Table.{hypergraph}
use Rattle.provenance.specs.Values.{Valueless}
use Rattle.provenance.proofs.Values.{value_figure, value_none, not_both, one_of_both, value_finite}
use Rattle.offers.specs.Values.{value_at, height_at, values_of, heights_of}
use Rattle.promises.proofs.Values.{value_placed, height_placed, none_valueless, height_ready, height_valueless, kept_after}

-- 2026-04: checking answers drags on wide tables ---------------------------------------------------------------------------------------------------------------------

-- "for every line the figure that its own figure and the lent figures of its parts give, or none if it is struck or lists a part at depth 0": the column that
-- `offers::line_values` fills, by its contract, holds `value_at` of every line, from labels that are lent and may be wrong. It asks for an
-- accepted table's lines, at most 1,024 parts, and no depth above 1,024: to a greater depth the answer check says no before any value is worked out
module _ (m : Measure) (c : Columns) (a : Answers) (e : ℕ) where
  abbrev value : ℕ
  value = value_at m c.own c.strikes c.spans c.tails a.weights a.depths e

  pub value_is_figure : Ready (hypergraph c) (labels a) e → value ≡ weigh (algebra m) (own_at c e) (tail-weights (labels a) (tail_at c e))
  unfolding value_at
  value_is_figure = value_figure (algebra m) (hypergraph c) (own_at c) (labels a) e

  pub value_is_none : Valueless (hypergraph c) (labels a) e → value ≡ none
  unfolding value_at
  value_is_none = value_none (algebra m) (hypergraph c) (own_at c) (labels a) e

  -- each case excludes the other, and they are all
  pub value_once : Ready (hypergraph c) (labels a) e → ¬ Valueless (hypergraph c) (labels a) e
  value_once = not_both (hypergraph c) (labels a) e

  pub value_always : e < length c.heads → Ready (hypergraph c) (labels a) e ⊎ Valueless (hypergraph c) (labels a) e
  value_always = one_of_both (hypergraph c) (labels a) e

-- "into a column of its own": what each place holds of the two columns that `offers::line_values` leaves, by its contract
module _ (m : Measure) (c : Columns) (t : RightTable c) (a : Answers) (column : List ℕ) where
  abbrev values : List ℕ
  values = filled (values_of m c.own c.strikes c.spans c.tails a.weights a.depths (length c.own)) column

  abbrev heights : List ℕ
  heights = filled (heights_of m c.own c.strikes c.spans c.tails a.weights a.depths (length c.own)) column

  module _ (e : ℕ) where
    pub placed_value : Ready (hypergraph c) (labels a) e → cell values e ≡ weigh (algebra m) (own_at c e) (tail-weights (labels a) (tail_at c e))
    unfolding value_at
    placed_value r = value_placed m c t a column e r.stands.numbered ∙ value_figure (algebra m) (hypergraph c) (own_at c) (labels a) e r

    pub placed_none : e < length c.heads → (cell values e ≡ none) ↔ Valueless (hypergraph c) (labels a) e
    unfolding value_at
    placed_none h =
        let p = value_placed m c t a column e h in
        (λ q. none_valueless m c a e h (sym p ∙ q), λ v. p ∙ value_none (algebra m) (hypergraph c) (own_at c) (labels a) e v)

    -- beside it, in the other column that is filled, the depth that the line gives: 1 more than the deepest of its parts, or 0 where it has no value
    pub height_is_depth : Ready (hypergraph c) (labels a) e → cell heights e ≡ greatest_depth (depth_in (labels a)) (tail_at c e) + 1
    unfolding height_at
    height_is_depth r = height_placed m c t a column e r.stands.numbered ∙ height_ready m c a e r

    pub height_is_zero : e < length c.heads → Valueless (hypergraph c) (labels a) e → cell heights e ≡ 0
    unfolding height_at
    height_is_zero h v = height_placed m c t a column e h ∙ height_valueless m c a e v

  -- places after the last line keep their bytes
  pub values_kept : drop (length c.heads) values ≡ drop (length c.heads) column
  values_kept = kept_after m c t a column (value_at m c.own c.strikes c.spans c.tails a.weights a.depths)

  pub heights_kept : drop (length c.heads) heights ≡ drop (length c.heads) column
  heights_kept = kept_after m c t a column (height_at m c.own c.strikes c.spans c.tails a.weights a.depths)

-- none is a number that no figure is, whatever is lent
pub figure_is_not_none : (m : Measure) (own : ℕ) (ws : List ℕ) → (weigh (algebra m) own ws ≤ 1_000_000_000_001) × (¬ (weigh (algebra m) own ws ≡ none))
figure_is_not_none = value_finite

-- "No answer changes and no other promise changes": Demand1's `check_answers` and Demand2's `says_yes` and `says_no` stand as they stood
