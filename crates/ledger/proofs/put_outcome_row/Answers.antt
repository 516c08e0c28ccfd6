-- `ledger::put_outcome_row` meets its contract: the part, and the outcome in the room behind it. Assumes nothing.
use mathlib.Core.Path.{sym}
use Prim.Native.Nat.{◌+◌, ◌≤◌}
use native.Mathlib.Omega.{arith}
use borrow.Author.Rules.{rules}
use lib.ListN.{length}
use Rattle.writing.proofs.Written.{written_as}
use Rattle.writing.proofs.Widths.{width_20}
use Rattle.reply.proofs.Room.{behind_starts, behind_room, written_behind}
use Rattle.ledger.specs.Ledger.{most_outcome}
use Rattle.ledger.proofs.Rows.{row_split}
use Rattle.ledger.proofs.put_outcome_row.Goals as goal

pub put_number-at-requires : goal.put_number-at-requires
put_number-at-requires c = let w = width_20 c.args.part c.ranges.part.fits in let p = c.requires in omega arith

pub slice_bounds-put_outcome-count : goal.slice_bounds-put_outcome-count
slice_bounds-put_outcome-count c =
    let short : c.put_number-at.result ≤ 20 = let w = width_20 c.args.part c.ranges.part.fits in let n = c.put_number-at.ensures.count in omega arith in
    let left : c.put_number-at.result + most_outcome ≤ length c.args.room.now = let a = short in let p = c.requires in omega arith in
    behind_starts _ _ _ _ c.put_number-at.ensures most_outcome left

pub slice_bounds-put_outcome-start : goal.slice_bounds-put_outcome-start
slice_bounds-put_outcome-start c = let r = slice_bounds-put_outcome-count c in search (rules, r)

pub put_outcome-width-requires : goal.put_outcome-width-requires
put_outcome-width-requires c =
    let short : c.put_number-at.result ≤ 20 = let w = width_20 c.args.part c.ranges.part.fits in let n = c.put_number-at.ensures.count in omega arith in
    let left : c.put_number-at.result + most_outcome ≤ length c.args.room.now = let a = short in let p = c.requires in omega arith in
    behind_room _ _ _ _ c.put_number-at.ensures most_outcome left

pub overflow_add-result : goal.overflow_add-result
overflow_add-result c =
    let short : c.put_number-at.result ≤ 20 = let w = width_20 c.args.part c.ranges.part.fits in let n = c.put_number-at.ensures.count in omega arith in
    let a = short in let b = c.put_outcome-width.ensures.upper_bound in omega arith

pub returns : goal.returns
returns c =
    let short : c.put_number-at.result ≤ 20 = let w = width_20 c.args.part c.ranges.part.fits in let n = c.put_number-at.ensures.count in omega arith in
    let left : c.put_number-at.result + most_outcome ≤ length c.args.room.now = let a = short in let p = c.requires in omega arith in
    let w = written_behind _ _ _ _ c.put_number-at.ensures most_outcome left _ _ _ c.put_outcome-width.ensures.upper_bound c.put_outcome-width.ensures.written in
    record { written = written_as _ _ _ (sym (row_split c.args.part c.args.outcome)) w; upper_bound = let a = short in let b = c.put_outcome-width.ensures.upper_bound in omega arith }

pub shape_of-room : goal.shape_of-room
shape_of-room c = (returns c).written.long
