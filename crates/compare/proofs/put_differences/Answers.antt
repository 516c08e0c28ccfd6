use native.Mathlib.Omega.{arith}
use borrow.Author.Rules.{rules}
use Rattle.columns.specs.Columns.{Entries}
use Rattle.columns.specs.Given.{entries_in}
use Rattle.writing.proofs.Written.{written_none}
use Rattle.compare.specs.Compare.{differences}
use Rattle.compare.proofs.Rows.{row_starts, row_room, row_next, rows_all}
use Rattle.compare.proofs.put_differences.Goals as goal

pub loop-i-init : goal.loop-i-init
unfolding differences
loop-i-init c = (omega arith, written_none _, omega arith)

pub slice_bounds-put_row_if-count : goal.slice_bounds-put_row_if-count
slice_bounds-put_row_if-count c =
    let one : Entries = entries_in c.args.entries.now in
    let two : Entries = entries_in c.args.others.now in
    let g = c.loop-i in
    row_starts one two _ _ c.args.n g.i g.at c.loop-i-test.true g.invariant.1 g.invariant.2 c.requires

pub slice_bounds-put_row_if-start : goal.slice_bounds-put_row_if-start
slice_bounds-put_row_if-start c = let r = slice_bounds-put_row_if-count c in search (rules, r)

pub put_row_if-at-requires : goal.put_row_if-at-requires
put_row_if-at-requires c =
    let one : Entries = entries_in c.args.entries.now in
    let two : Entries = entries_in c.args.others.now in
    let g = c.loop-i in
    row_room one two _ _ c.args.n g.i g.at c.loop-i-test.true g.invariant.1 g.invariant.2 c.requires

pub loop-i-preserved : goal.loop-i-preserved
loop-i-preserved c =
    let one : Entries = entries_in c.args.entries.now in
    let two : Entries = entries_in c.args.others.now in
    let g = c.loop-i in
    let e = c.put_row_if-at.ensures in (
      (let h = c.loop-i-test.true in omega arith),
      row_next one two _ _ c.args.n g.i g.at c.loop-i-test.true g.invariant.1 g.invariant.2 c.requires
          _ _ c.entry-first.ensures c.entry-second.ensures _ _ e.upper_bound e.written,
      (let a = g.invariant.2 in let b = e.upper_bound in omega arith),
    )

pub overflow_add-at : goal.overflow_add-at
overflow_add-at c =
    let a = (loop-i-preserved c).2 in
    let h = c.loop-i-test.true in
    let p = c.requires in
    omega (arith, c.well_formed)

pub shape_of-room : goal.shape_of-room
shape_of-room c = c.loop-i.invariant.1.long

pub returns : goal.returns
returns c = let g = c.loop-i in rows_all _ _ _ _ _ _ _ g.invariant.0 c.loop-i-test.false g.invariant.1
