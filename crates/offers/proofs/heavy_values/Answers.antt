-- `offers::heavy_values` meets its contract: the capped weights are light and give each line the value and the height that the weights give it. Assumes nothing.
use mathlib.Core.Path.{◌≡◌, sym, ◌∙◌, ap, subst}
use mathlib.Core.List.{List}
use Prim.Native.Nat.{ℕ, ◌-◌}
use lib.ListN.{length, take}
use Rattle.columns.specs.Filled.{filled}
use Rattle.offers.specs.Passing.{Light}
use Rattle.offers.specs.Values.{values_of, heights_of, capped_column, Valuable}
use Rattle.offers.proofs.Capping.{capped_part, capped_light, valuable_capped, values_capped, heights_capped}
use Rattle.offers.proofs.heavy_values.Goals as goal

pub light_values-requires : goal.light_values-requires
light_values-requires c =
    let part : let ws = c.args.weights.now in take (length ws - 0) c.cap_all.new.column ≡ capped_column ws = capped_part c.args.weights.now _ c.cap_all.ensures in
    let a = c.args in
    let lends : List ℕ → Type 0 = λ xs. (Valuable a.own.now a.strikes.now a.spans.now a.tails.now xs a.depths.now a.values.now a.heights.now) × Light xs in
    subst lends (sym part) (valuable_capped c.requires, capped_light a.weights.now)

pub returns : goal.returns
returns c =
    let part : let ws = c.args.weights.now in take (length ws - 0) c.cap_all.new.column ≡ capped_column ws = capped_part c.args.weights.now _ c.cap_all.ensures in
    let a = c.args in
    let n = length a.own.now in
    let values : List ℕ → List ℕ = λ xs. filled (values_of a.measure a.own.now a.strikes.now a.spans.now a.tails.now xs a.depths.now n) a.values.now in
    let heights : List ℕ → List ℕ = λ xs. filled (heights_of a.measure a.own.now a.strikes.now a.spans.now a.tails.now xs a.depths.now n) a.heights.now in (
      c.light_values.ensures.0 ∙ ap values part ∙ ap (λ (z : List ℕ). filled z a.values.now) (values_capped _ _ _ _ _ _ _ c.requires.figures),
      c.light_values.ensures.1 ∙ ap heights part ∙ ap (λ (z : List ℕ). filled z a.heights.now) (heights_capped _ _ _ _ _ _ _ c.requires.figures),
    )
