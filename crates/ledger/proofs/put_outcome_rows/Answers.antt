use native.Mathlib.Omega.{arith}
use borrow.Author.Rules.{rules}
use Rattle.writing.proofs.Written.{written_none}
use Rattle.ledger.specs.Ledger.{outcome_rows}
use Rattle.ledger.proofs.Rows.{row_starts, row_room, row_next, rows_all}
use Rattle.ledger.proofs.put_outcome_rows.Goals as goal

pub loop-i-init : goal.loop-i-init
unfolding outcome_rows
loop-i-init c = (omega arith, written_none _, omega arith)

pub bounds-outcomes-i : goal.bounds-outcomes-i
bounds-outcomes-i c = let t = c.loop-i-test.true in let e = c.requires.0 in search (rules, t, e)

pub slice_bounds-put_outcome_row-count : goal.slice_bounds-put_outcome_row-count
slice_bounds-put_outcome_row-count c =
    let g = c.loop-i in
    row_starts c.args.parts.now c.args.outcomes.now _ _ g.i g.at c.requires.0 c.loop-i-test.true g.invariant.1 g.invariant.2 c.requires.1

pub slice_bounds-put_outcome_row-start : goal.slice_bounds-put_outcome_row-start
slice_bounds-put_outcome_row-start c = let r = slice_bounds-put_outcome_row-count c in search (rules, r)

pub put_outcome_row-at-requires : goal.put_outcome_row-at-requires
put_outcome_row-at-requires c =
    let g = c.loop-i in
    row_room c.args.parts.now c.args.outcomes.now _ _ g.i g.at c.requires.0 c.loop-i-test.true g.invariant.1 g.invariant.2 c.requires.1

pub loop-i-preserved : goal.loop-i-preserved
loop-i-preserved c =
    let g = c.loop-i in
    let e = c.put_outcome_row-at.ensures in (
      (let h = c.loop-i-test.true in omega arith),
      row_next c.args.parts.now c.args.outcomes.now _ _ g.i g.at c.requires.0 c.loop-i-test.true g.invariant.1 g.invariant.2 c.requires.1 _ _ e.upper_bound e.written,
      (let a = g.invariant.2 in let b = e.upper_bound in omega arith),
    )

pub overflow_add-at : goal.overflow_add-at
overflow_add-at c =
    let a = (loop-i-preserved c).2 in
    let h = c.loop-i-test.true in
    let p = c.requires.1 in
    omega (arith, c.well_formed)

pub shape_of-room : goal.shape_of-room
shape_of-room c = c.loop-i.invariant.1.long

pub returns : goal.returns
returns c =
    let g = c.loop-i in
    record { written = rows_all _ _ _ _ _ _ c.requires.0 c.loop-i-test.false g.invariant.1; upper_bound = let a = g.invariant.0 in let b = g.invariant.2 in omega arith }
