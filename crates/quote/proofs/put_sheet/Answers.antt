-- `quote::put_sheet` meets its contract: the rows, and the last one in the room behind them. Assumes nothing.
use mathlib.Core.List.{List, []}
use Prim.Native.Nat.{ℕ, ◌+◌, ◌≤◌}
use native.Mathlib.Omega.{arith}
use borrow.Author.Rules.{rules}
use lib.ListN.{length}
use Rattle.columns.specs.Columns.{columns}
use Rattle.quote.specs.Quote.{most_last, rows}
use Rattle.reply.proofs.Room.{behind_starts, behind_room, written_behind}
use Rattle.quote.proofs.put_sheet.Goals as goal

pub put_rows-at-requires : goal.put_rows-at-requires
put_rows-at-requires c = let p = c.requires in omega arith

pub slice_bounds-put_last-count : goal.slice_bounds-put_last-count
slice_bounds-put_last-count c =
    let front : List ℕ = rows (columns 0 c.args.heads.now c.args.own.now [] [] []) c.args.lines.now in
    let left : c.put_rows-at.result + most_last ≤ length c.args.room.now = let a = c.put_rows-at.ensures.upper_bound in let p = c.requires in omega arith in
    behind_starts front _ _ _ c.put_rows-at.ensures.fact most_last left

pub slice_bounds-put_last-start : goal.slice_bounds-put_last-start
slice_bounds-put_last-start c = let r = slice_bounds-put_last-count c in search (rules, r)

pub put_last-width-requires : goal.put_last-width-requires
put_last-width-requires c =
    let front : List ℕ = rows (columns 0 c.args.heads.now c.args.own.now [] [] []) c.args.lines.now in
    let left : c.put_rows-at.result + most_last ≤ length c.args.room.now = let a = c.put_rows-at.ensures.upper_bound in let p = c.requires in omega arith in
    behind_room front _ _ _ c.put_rows-at.ensures.fact most_last left

pub overflow_add-result : goal.overflow_add-result
overflow_add-result c =
    let left : c.put_rows-at.result + most_last ≤ length c.args.room.now = let a = c.put_rows-at.ensures.upper_bound in let p = c.requires in omega arith in
    let a = left in
    let b = c.put_last-width.ensures.upper_bound in
    omega (arith, c.well_formed)

pub returns : goal.returns
returns c =
    let front : List ℕ = rows (columns 0 c.args.heads.now c.args.own.now [] [] []) c.args.lines.now in
    let left : c.put_rows-at.result + most_last ≤ length c.args.room.now = let a = c.put_rows-at.ensures.upper_bound in let p = c.requires in omega arith in
    written_behind front _ _ _ c.put_rows-at.ensures.fact most_last left _ _ _ c.put_last-width.ensures.upper_bound c.put_last-width.ensures.written

pub shape_of-room : goal.shape_of-room
shape_of-room c = (returns c).long
