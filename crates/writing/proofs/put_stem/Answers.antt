-- `writing::put_stem` meets its contract: one piece, and another in the room behind it. Assumes nothing.
use native.Mathlib.Omega.{arith}
use borrow.Author.Rules.{rules}
use Rattle.writing.proofs.Written.{lent-room, within, written_part, first_fits}
use Rattle.writing.proofs.put_stem.Goals as goal

pub put_number-at-requires : goal.put_number-at-requires
put_number-at-requires c = first_fits _ _ _ c.requires

pub slice_bounds-put_own-count : goal.slice_bounds-put_own-count
slice_bounds-put_own-count c = within _ _ _ _ c.put_number-at.ensures _ c.requires

pub slice_bounds-put_own-start : goal.slice_bounds-put_own-start
slice_bounds-put_own-start c = let r = within _ _ _ _ c.put_number-at.ensures _ c.requires in search (rules, r)

pub put_own-width-requires : goal.put_own-width-requires
put_own-width-requires c = lent-room _ _ _ _ c.put_number-at.ensures _ c.requires

pub overflow_add-result : goal.overflow_add-result
overflow_add-result c =
    let n = (written_part _ _ _ _ c.put_number-at.ensures _ _ _ c.requires c.put_own-width.ensures).count in
    let w = c.requires in
    omega (arith, c.well_formed)

pub returns : goal.returns
returns c = written_part _ _ _ _ c.put_number-at.ensures _ _ _ c.requires c.put_own-width.ensures
