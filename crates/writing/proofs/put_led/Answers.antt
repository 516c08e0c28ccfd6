-- `writing::put_led` meets its contract: one piece, and another in the room behind it. Assumes nothing.
use native.Mathlib.Omega.{arith}
use borrow.Author.Rules.{rules}
use Rattle.writing.proofs.Written.{lent-room, within, written_part, first_fits}
use Rattle.writing.proofs.put_led.Goals as goal

pub put_bytes-at-requires : goal.put_bytes-at-requires
put_bytes-at-requires c = first_fits _ _ _ c.requires

pub slice_bounds-put_number-count : goal.slice_bounds-put_number-count
slice_bounds-put_number-count c = within _ _ _ _ c.put_bytes-at.ensures _ c.requires

pub slice_bounds-put_number-start : goal.slice_bounds-put_number-start
slice_bounds-put_number-start c = let r = within _ _ _ _ c.put_bytes-at.ensures _ c.requires in search (rules, r)

pub put_number-width-requires : goal.put_number-width-requires
put_number-width-requires c = lent-room _ _ _ _ c.put_bytes-at.ensures _ c.requires

pub overflow_add-result : goal.overflow_add-result
overflow_add-result c =
    let n = (written_part _ _ _ _ c.put_bytes-at.ensures _ _ _ c.requires c.put_number-width.ensures).count in
    let w = c.requires in
    omega (arith, c.well_formed)

pub returns : goal.returns
returns c = written_part _ _ _ _ c.put_bytes-at.ensures _ _ _ c.requires c.put_number-width.ensures
