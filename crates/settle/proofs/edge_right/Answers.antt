-- `settle::edge_right` meets its contract: the head has its place in the columns, and `keeps_up` tells the test. Assumes nothing.
use native.Mathlib.Omega.{arith}
use Rattle.settle.specs.Comparing.{edge_fits}
use Rattle.settle.proofs.Comparing.{head_inside}
use Rattle.settle.proofs.edge_right.Goals as goal

pub offset_bounds-weights-v : goal.offset_bounds-weights-v
offset_bounds-weights-v c = omega (arith, head_inside c.requires.0 c.args.e.0 c.requires.1)

pub bounds-weights-v : goal.bounds-weights-v
bounds-weights-v c = omega (arith, head_inside c.requires.0 c.args.e.0 c.requires.1)

pub offset_bounds-depths-v : goal.offset_bounds-depths-v
offset_bounds-depths-v c = omega (arith, head_inside c.requires.0 c.args.e.0 c.requires.1)

pub bounds-depths-v : goal.bounds-depths-v
bounds-depths-v c = omega (arith, head_inside c.requires.0 c.args.e.0 c.requires.1)

pub offset_bounds-edges-v : goal.offset_bounds-edges-v
offset_bounds-edges-v c = omega (arith, head_inside c.requires.0 c.args.e.0 c.requires.1)

pub bounds-edges-v : goal.bounds-edges-v
bounds-edges-v c = omega (arith, head_inside c.requires.0 c.args.e.0 c.requires.1)

pub returns : goal.returns
unfolding edge_fits
returns c = c.keeps_up.ensures
