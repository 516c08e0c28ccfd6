use mathlib.Core.List.{List, []}
use Prim.Native.Nat.{ℕ}
use native.Mathlib.Omega.{arith}
use borrow.Author.Rules.{rules}
use Rattle.columns.specs.Columns.{Columns, columns}
use Rattle.writing.proofs.Written.{written_none}
use Rattle.quote.specs.Quote.{rows}
use Rattle.quote.proofs.Rows.{row_starts, row_room, row_next, rows_all}
use Rattle.quote.proofs.put_rows.Goals as goal

abbrev table_of : (heads own : List ℕ) → Columns
table_of heads own = columns 0 heads own [] [] []

pub loop-line-init : goal.loop-line-init
unfolding rows
loop-line-init c = (omega arith, written_none _, omega arith)

pub slice_bounds-put_row-count : goal.slice_bounds-put_row-count
slice_bounds-put_row-count c =
    let g = c.loop-line in
    row_starts (table_of c.args.heads.now c.args.own.now) c.args.lines.now _ _ g.line-index g.at c.loop-line-test.true g.invariant.1 g.invariant.2 c.requires

pub slice_bounds-put_row-start : goal.slice_bounds-put_row-start
slice_bounds-put_row-start c = let r = slice_bounds-put_row-count c in search (rules, r)

pub put_row-at-requires : goal.put_row-at-requires
put_row-at-requires c =
    let g = c.loop-line in
    row_room (table_of c.args.heads.now c.args.own.now) c.args.lines.now _ _ g.line-index g.at c.loop-line-test.true g.invariant.1 g.invariant.2 c.requires

pub loop-line-preserved : goal.loop-line-preserved
loop-line-preserved c =
    let g = c.loop-line in
    let t = table_of c.args.heads.now c.args.own.now in
    let e = c.put_row-at.ensures in (
      (let h = c.loop-line-test.true in omega arith),
      row_next t c.args.lines.now _ _ g.line-index g.at c.loop-line-test.true g.invariant.1 g.invariant.2 c.requires _ _ e.upper_bound e.fact,
      (let a = g.invariant.2 in let b = e.upper_bound in omega arith),
    )

pub overflow_add-at : goal.overflow_add-at
overflow_add-at c =
    let a = (loop-line-preserved c).2 in
    let h = c.loop-line-test.true in
    let p = c.requires in
    omega (arith, c.well_formed)

pub shape_of-room : goal.shape_of-room
shape_of-room c = c.loop-line.invariant.1.long

pub returns : goal.returns
returns c =
    let g = c.loop-line in
    record { fact = rows_all _ _ _ _ _ _ c.loop-line-test.false g.invariant.1; upper_bound = let a = g.invariant.0 in let b = g.invariant.2 in omega arith }
