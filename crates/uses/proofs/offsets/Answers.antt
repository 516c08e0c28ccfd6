-- `uses::offsets` meets its contract: the counts become offsets, and their sum is the number of uses. Assumes nothing.
use mathlib.Core.Path.{◌∙◌}
use Rattle.uses.proofs.Whole.{sum_is, placeable, placed_is}
use Rattle.uses.proofs.offsets.Goals as goal

pub place-requires : goal.place-requires
place-requires c = placeable c.requires c.count.ensures

pub returns : goal.returns
returns c = (c.place.ensures.0 ∙ sum_is c.requires c.count.ensures, placed_is c.requires c.count.ensures c.place.ensures.1)
