-- `uses::index_uses` meets its contract: the passes follow one another. Assumes nothing.
use native.Mathlib.Omega.{arith}
use Rattle.uses.proofs.Whole.{measurable, offset, all-indexed}
use Rattle.uses.proofs.index_uses.Goals as goal

pub offsets-total-requires : goal.offsets-total-requires
offsets-total-requires c = measurable c.requires (omega arith)

pub fill-requires : goal.fill-requires
fill-requires c = offset c.requires c.offsets-total.ensures.1

pub returns : goal.returns
returns c = all-indexed c.requires c.offsets-total.ensures.1 c.fill.ensures c.offsets-total.ensures.0
