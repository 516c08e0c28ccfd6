use mathlib.Core.Path.{sym, ◌∙◌}
use native.Mathlib.Omega.{arith}
use Rattle.topological.proofs.Whole.{walk_begin, walk-sized, visitable, storable, walk_more, walk-all}
use Rattle.topological.proofs.walk.Goals as goal

pub loop-i-init : goal.loop-i-init
loop-i-init c = walk_begin c.args.measure _ c.requires.empty

pub visit-o-requires : goal.visit-o-requires
visit-o-requires c =
    visitable c.args.measure _ c.requires.accepted _ c.loop-i.invariant (omega arith) c.requires.linked (omega arith)

pub store-requires : goal.store-requires
store-requires c = storable c.args.measure _ c.requires.accepted _ c.loop-i.invariant (omega arith) (omega arith)

pub loop-i-preserved : goal.loop-i-preserved
loop-i-preserved c =
    walk_more c.args.measure _ c.requires.accepted _ c.loop-i.invariant (omega arith) (omega arith) c.visit-o.ensures c.store.ensures

pub shape_of-weights : goal.shape_of-weights
shape_of-weights c =
    (walk-sized c.args.measure _ c.requires.accepted _ c.loop-i.invariant (omega arith)).weights
    ∙ sym (walk-sized c.args.measure _ c.requires.accepted 0 (walk_begin c.args.measure _ c.requires.empty) (omega arith)).weights

pub shape_of-depths : goal.shape_of-depths
shape_of-depths c = (walk-sized c.args.measure _ c.requires.accepted _ c.loop-i.invariant (omega arith)).depths

pub shape_of-edges : goal.shape_of-edges
shape_of-edges c =
    (walk-sized c.args.measure _ c.requires.accepted _ c.loop-i.invariant (omega arith)).edges
    ∙ sym (walk-sized c.args.measure _ c.requires.accepted 0 (walk_begin c.args.measure _ c.requires.empty) (omega arith)).edges

pub returns : goal.returns
returns c = walk-all c.args.measure _ c.loop-i.invariant (omega arith)
