-- `settle::labels_right` meets its contract by the laws of `Checked`: a test that fails rules the table's answers out, and all of them together show them.
-- An accepted table has no more lines than the greater columns have places. Assumes nothing.
use mathlib.Core.Path.{sym, ◌∙◌}
use native.Mathlib.Omega.{arith}
use Rattle.columns.proofs.Accepted.{table_accepted}
use Rattle.settle.proofs.Checked.{too_deep, usable, all_decide}
use Rattle.settle.proofs.labels_right.Goals as goal

pub returns-then-not-all_below : goal.returns-then-not-all_below
returns-then-not-all_below c = too_deep c.args.measure _ _ c.requires (sym c.all_below.ensures ∙ c.if-not-all_below.true)

pub right_with-requires : goal.right_with-requires
right_with-requires c =
    (usable c.args.measure _ _ c.requires (sym c.all_below.ensures ∙ c.if-not-all_below.false), (c.if-table-le256.true, omega arith))

pub returns-then-table-le256 : goal.returns-then-table-le256
returns-then-table-le256 c = c.right_with.ensures ∙ all_decide c.args.measure _ _ c.requires

pub right_with-requires-2 : goal.right_with-requires-2
right_with-requires-2 c = (
  usable c.args.measure _ _ c.requires (sym c.all_below.ensures ∙ c.if-not-all_below.false),
  (omega (arith, (table_accepted _ c.requires.table).edges), omega arith),
)

pub returns : goal.returns
returns c = c.right_with-2.ensures ∙ all_decide c.args.measure _ _ c.requires
