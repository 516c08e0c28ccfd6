-- `writing::put_edge` meets its contract: one piece, and another in the room behind it. Assumes nothing.
use mathlib.Core.Path.{sym}
use native.Mathlib.Omega.{arith}
use borrow.Author.Rules.{rules}
use Rattle.text.specs.Tables.{edge}
use Rattle.writing.proofs.Written.{lent-room, within, written_part, written_as, first_fits}
use Rattle.writing.proofs.Widths.{line_split, line_fits}
use Rattle.writing.proofs.put_edge.Goals as goal

pub put_stem-at-requires : goal.put_stem-at-requires
put_stem-at-requires c = first_fits _ _ _ (line_fits _ _ c.requires)

pub slice_bounds-put_tail-count : goal.slice_bounds-put_tail-count
slice_bounds-put_tail-count c = within _ _ _ _ c.put_stem-at.ensures _ (line_fits _ _ c.requires)

pub slice_bounds-put_tail-start : goal.slice_bounds-put_tail-start
slice_bounds-put_tail-start c = let r = within _ _ _ _ c.put_stem-at.ensures _ (line_fits _ _ c.requires) in search (rules, r)

pub put_tail-width-requires : goal.put_tail-width-requires
put_tail-width-requires c = lent-room _ _ _ _ c.put_stem-at.ensures _ (line_fits _ _ c.requires)

pub overflow_add-result : goal.overflow_add-result
overflow_add-result c =
    let n = (written_part _ _ _ _ c.put_stem-at.ensures _ _ _ (line_fits _ _ c.requires) c.put_tail-width.ensures).count in
    let f = line_fits _ _ c.requires in
    omega (arith, c.well_formed)

pub returns : goal.returns
returns c = written_as _ _ _ (sym (line_split (edge _ _ _ _))) (written_part _ _ _ _ c.put_stem-at.ensures _ _ _ (line_fits _ _ c.requires) c.put_tail-width.ensures)
