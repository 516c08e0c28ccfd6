-- `amend::put_in_use` meets its contract: the parts that are lent on are in their columns. Assumes nothing.
use mathlib.Core.Path.{sym}
use lib.Seq.{length-take-le}
use Rattle.amend.proofs.put_in_use.Goals as goal

pub slice_bounds-put_text-end : goal.slice_bounds-put_text-end
slice_bounds-put_text-end c = sym (length-take-le _ _ c.requires.placed.heads)

pub slice_bounds-put_text-end-2 : goal.slice_bounds-put_text-end-2
slice_bounds-put_text-end-2 c = sym (length-take-le _ _ c.requires.placed.own)

pub slice_bounds-put_text-end-3 : goal.slice_bounds-put_text-end-3
slice_bounds-put_text-end-3 c = sym (length-take-le _ _ c.requires.placed.strikes)

pub slice_bounds-put_text-end-4 : goal.slice_bounds-put_text-end-4
slice_bounds-put_text-end-4 c = sym (length-take-le _ _ c.requires.placed.spans)

pub slice_bounds-put_text-end-5 : goal.slice_bounds-put_text-end-5
slice_bounds-put_text-end-5 c = sym (length-take-le _ _ c.requires.placed.tails)
