-- `settle::line_rests` meets its contract: the head has its place in the columns; what the line comes to by itself tells whether it rests. Assumes nothing.
use mathlib.Core.Path.{◌∙◌}
use native.Mathlib.Omega.{arith}
use Rattle.columns.proofs.Accepted.{table_accepted}
use Rattle.settle.proofs.Comparing.{head_within}
use Rattle.settle.proofs.Resting.{valuable_alone, rests-not, height_low, rests_told}
use Rattle.settle.proofs.line_rests.Goals as goal

pub offset_bounds-weights-v : goal.offset_bounds-weights-v
offset_bounds-weights-v c = omega (arith, head_within c.requires.0 c.args.e.0 c.requires.1)

pub bounds-weights-v : goal.bounds-weights-v
bounds-weights-v c = omega (arith, head_within c.requires.0 c.args.e.0 c.requires.1)

pub offset_bounds-depths-v : goal.offset_bounds-depths-v
offset_bounds-depths-v c = omega (arith, head_within c.requires.0 c.args.e.0 c.requires.1)

pub bounds-depths-v : goal.bounds-depths-v
bounds-depths-v c = omega (arith, head_within c.requires.0 c.args.e.0 c.requires.1)

pub offset_bounds-edges-v : goal.offset_bounds-edges-v
offset_bounds-edges-v c = omega (arith, head_within c.requires.0 c.args.e.0 c.requires.1)

pub bounds-edges-v : goal.bounds-edges-v
bounds-edges-v c = omega (arith, head_within c.requires.0 c.args.e.0 c.requires.1)

pub returns-then-root-e : goal.returns-then-root-e
returns-then-root-e c = rests-not c.args.measure _ _ c.args.e.0 c.if-root-e.true

pub slice_bounds-line_values-end : goal.slice_bounds-line_values-end
slice_bounds-line_values-end c = omega (arith, (table_accepted _ c.requires.0.usable.accepted).own, c.requires.1)

pub slice_bounds-line_values-end-2 : goal.slice_bounds-line_values-end-2
slice_bounds-line_values-end-2 c = omega (arith, (table_accepted _ c.requires.0.usable.accepted).strikes, c.requires.1)

pub slice_bounds-line_values-end-3 : goal.slice_bounds-line_values-end-3
slice_bounds-line_values-end-3 c = omega (arith, (table_accepted _ c.requires.0.usable.accepted).spans, c.requires.1)

pub line_values-requires : goal.line_values-requires
line_values-requires c = valuable_alone c.requires.0 c.args.e.0 c.requires.1 (omega arith) (omega arith)

pub overflow_cast-height : goal.overflow_cast-height
overflow_cast-height c = omega (arith, height_low c.requires.0 c.args.e.0 c.requires.1 c.args.measure _ _ c.line_values.ensures)

pub returns : goal.returns
returns c =
    c.keeps_up.ensures ∙ rests_told c.requires.0 c.args.e.0 c.requires.1 c.args.measure _ _ c.line_values.ensures c.if-root-e.false
