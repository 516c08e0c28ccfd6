-- `report::put_row` meets its contract: part and state, and the numbers in the room behind them. Assumes nothing.
use mathlib.Core.Path.{sym}
use native.Mathlib.Omega.{arith}
use borrow.Author.Rules.{rules}
use Rattle.writing.proofs.Written.{lent-room, within, written_part, written_as, first_fits}
use Rattle.report.proofs.Pieces.{row_split, row_fits}
use Rattle.report.proofs.put_row.Goals as goal

pub put_stem-at-requires : goal.put_stem-at-requires
put_stem-at-requires c = first_fits _ _ _ (row_fits c.args.v.0 c.args.entry _ c.requires)

pub slice_bounds-put_tail-count : goal.slice_bounds-put_tail-count
slice_bounds-put_tail-count c = within _ _ _ _ c.put_stem-at.ensures _ (row_fits c.args.v.0 c.args.entry _ c.requires)

pub slice_bounds-put_tail-start : goal.slice_bounds-put_tail-start
slice_bounds-put_tail-start c = let r = within _ _ _ _ c.put_stem-at.ensures _ (row_fits c.args.v.0 c.args.entry _ c.requires) in search (rules, r)

pub put_tail-width-requires : goal.put_tail-width-requires
put_tail-width-requires c = lent-room _ _ _ _ c.put_stem-at.ensures _ (row_fits c.args.v.0 c.args.entry _ c.requires)

pub overflow_add-result : goal.overflow_add-result
overflow_add-result c =
    let f = row_fits c.args.v.0 c.args.entry _ c.requires in
    let n = (written_part _ _ _ _ c.put_stem-at.ensures _ _ _ f c.put_tail-width.ensures).count in
    omega (arith, c.well_formed)

pub returns : goal.returns
returns c =
    written_as _ _ _ (sym (row_split c.args.v.0 c.args.entry))
    (written_part _ _ _ _ c.put_stem-at.ensures _ _ _ (row_fits c.args.v.0 c.args.entry _ c.requires) c.put_tail-width.ensures)
