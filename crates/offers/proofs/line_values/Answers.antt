-- `offers::line_values` meets its contract: where the weights are light as `light_values` does, else as `heavy_values`. Assumes nothing.
use mathlib.Core.Path.{sym, ◌∙◌}
use Rattle.offers.proofs.Passing.{light_all}
use Rattle.offers.proofs.line_values.Goals as goal

pub light_values-requires : goal.light_values-requires
light_values-requires c = (c.requires, light_all c.args.weights.now (sym c.all_light.ensures ∙ c.if-all_light.true))
