use Prim.Native.Nat.{◌+◌}
use native.Mathlib.Omega.{arith}
use borrow.Author.Rules.{rules}
use lib.ListN.{length}
use Rattle.columns.specs.Columns.{entries}
use Rattle.writing.proofs.Written.{written_none}
use Rattle.report.specs.Report.{rows}
use Rattle.report.proofs.Laws.{rows_within, row_starts, row_room, row_next, rows_all}
use Rattle.report.proofs.put_rows.Goals as goal

pub loop-i-init : goal.loop-i-init
unfolding rows
loop-i-init c = written_none _

pub slice_bounds-put_row-count : goal.slice_bounds-put_row-count
slice_bounds-put_row-count c = row_starts _ _ _ c.loop-i.i (length c.args.entries.now.depths.now) _ (omega arith) c.loop-i.invariant c.requires _ c.entry-entry.ensures

pub slice_bounds-put_row-start : goal.slice_bounds-put_row-start
slice_bounds-put_row-start c = let r = row_starts _ _ _ c.loop-i.i (length c.args.entries.now.depths.now) _ (omega arith) c.loop-i.invariant c.requires _ c.entry-entry.ensures in search (rules, r)

pub put_row-at-requires : goal.put_row-at-requires
put_row-at-requires c = row_room _ _ _ c.loop-i.i (length c.args.entries.now.depths.now) _ (omega arith) c.loop-i.invariant c.requires _ c.entry-entry.ensures

pub overflow_add-at : goal.overflow_add-at
overflow_add-at c =
    let w = (row_next _ _ _ c.loop-i.i (length c.args.entries.now.depths.now) _ (omega arith) c.loop-i.invariant c.requires _ c.entry-entry.ensures _ _ c.put_row-at.ensures).count in
    let b = rows_within (entries c.args.entries.now.weights.now c.args.entries.now.depths.now c.args.entries.now.edges.now c.args.entries.now.pieces.now) (c.loop-i.i + 1) (length c.args.entries.now.depths.now) (omega arith) in
    let p = c.requires in
    omega (arith, c.well_formed)

pub loop-i-preserved : goal.loop-i-preserved
loop-i-preserved c = row_next _ _ _ c.loop-i.i (length c.args.entries.now.depths.now) _ (omega arith) c.loop-i.invariant c.requires _ c.entry-entry.ensures _ _ c.put_row-at.ensures

pub returns : goal.returns
returns c = rows_all _ _ _ c.loop-i.i _ _ (omega arith) (omega arith) c.loop-i.invariant
