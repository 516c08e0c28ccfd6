use mathlib.Core.Path.{sym, ◌∙◌, ap}
use native.Mathlib.Omega.{arith}
use borrow.Author.Rules.{rules}
use Rattle.reading.proofs.Scanning.{scan-begun}
use Rattle.reading.proofs.Laws.{refused_there, all_told, full_refused, line_refused, line-next}
use Rattle.refusal.proofs.Passed.{passed_on}
use Rattle.reading.proofs.check_lines.Goals as goal
use Rattle.std.specs.Prelude.{Err}

pub loop-at-init : goal.loop-at-init
loop-at-init c = (search rules, scan-begun _ _ _ _ c.requires)

pub overflow_add-number : goal.overflow_add-number
overflow_add-number c = let f = c.loop-at.invariant.1.few in omega arith

pub returns-then-edges-ge-MOST_EDGES : goal.returns-then-edges-ge-MOST_EDGES
returns-then-edges-ge-MOST_EDGES c = full_refused _ _ _ _ _ _ c.loop-at.invariant.1 c.loop-at-test.true c.if-edges-ge-MOST_EDGES.true

pub overflow_sub-most : goal.overflow_sub-most
overflow_sub-most c = c.loop-at.invariant.1.few_listed

pub slice_bounds-line_at-end : goal.slice_bounds-line_at-end
slice_bounds-line_at-end c = sym c.loop-at.invariant.0

-- a line that fails
pub returns-in_err-line : goal.returns-in_err-line
returns-in_err-line c =
    let r =
    line_refused _ _ _ _ _ _ c.loop-at.invariant.1 c.loop-at-test.true c.if-edges-ge-MOST_EDGES.false _ c.loop-at.invariant.0 _ _ c.line_at.ensures.answer _ c.in_err-line.was in
    rw (passed_on _ c.from_residual.ensures.1) (ap Err r.1 ∙ refused_there _ _ _ _ r.2)

pub overflow_add-edges : goal.overflow_add-edges
overflow_add-edges c =
    let r = line-next _ _ _ _ _ _ c.loop-at.invariant.1 c.loop-at-test.true c.if-edges-ge-MOST_EDGES.false _ c.loop-at.invariant.0 _ _ c.line_at.ensures.answer _ c.in_ok-line.was in let f = r.2.few in omega arith

pub overflow_add-listed : goal.overflow_add-listed
overflow_add-listed c =
    let r = line-next _ _ _ _ _ _ c.loop-at.invariant.1 c.loop-at-test.true c.if-edges-ge-MOST_EDGES.false _ c.loop-at.invariant.0 _ _ c.line_at.ensures.answer _ c.in_ok-line.was in let f = r.2.few_listed in omega arith

pub loop-at-smaller : goal.loop-at-smaller
loop-at-smaller c =
    let r = line-next _ _ _ _ _ _ c.loop-at.invariant.1 c.loop-at-test.true c.if-edges-ge-MOST_EDGES.false _ c.loop-at.invariant.0 _ _ c.line_at.ensures.answer _ c.in_ok-line.was in let h = r.0 in let w = r.2.within in omega arith

pub loop-at-preserved : goal.loop-at-preserved
loop-at-preserved c =
    let r = line-next _ _ _ _ _ _ c.loop-at.invariant.1 c.loop-at-test.true c.if-edges-ge-MOST_EDGES.false _ c.loop-at.invariant.0 _ _ c.line_at.ensures.answer _ c.in_ok-line.was in (search rules, r.2)

pub returns : goal.returns
returns c = all_told _ _ _ _ _ _ c.loop-at.invariant.1 c.loop-at-test.false
