-- `topological::check_line` meets its contract: a field is refused, or the tail alone is left to be looked at. Assumes nothing.
use mathlib.Core.Path.{sym, ◌∙◌}
use native.Mathlib.Omega.{arith}
use Rattle.columns.proofs.Sizes.{fields_within}
use Rattle.topological.proofs.Checking.{tail_told, line_refused, line_accepted, line_unordered, line_tail}
use Rattle.refusal.proofs.Passed.{passed_on}
use Rattle.topological.proofs.check_line.Goals as goal

pub returns-in_err-check_fields : goal.returns-in_err-check_fields
returns-in_err-check_fields c = rw (passed_on _ c.from_residual.ensures.1) (line_refused _ _ _ _ _ _ _ _ _ _ (sym c.check_fields.ensures ∙ c.in_err-check_fields.was))

pub overflow_add-to : goal.overflow_add-to
overflow_add-to c =
    let a = c.args in
    omega (arith, fields_within a.n a.e _ _ _ _ _ _ a.tails.now (sym c.check_fields.ensures ∙ c.in_ok-check_fields.was))

pub offset_bounds-tails-from : goal.offset_bounds-tails-from
offset_bounds-tails-from c =
    let a = c.args in
    omega (arith, fields_within a.n a.e _ _ _ _ _ _ a.tails.now (sym c.check_fields.ensures ∙ c.in_ok-check_fields.was))

pub slice_bounds-tail_below-end : goal.slice_bounds-tail_below-end
slice_bounds-tail_below-end c =
    let a = c.args in
    omega (arith, fields_within a.n a.e _ _ _ _ _ _ a.tails.now (sym c.check_fields.ensures ∙ c.in_ok-check_fields.was))

pub returns-then-tail_below : goal.returns-then-tail_below
returns-then-tail_below c =
    let a = c.args in
    line_accepted _ _ _ _ _ _ _ _ _ (sym c.check_fields.ensures ∙ c.in_ok-check_fields.was) (tail_told a.head.0 a.offset a.size a.tails.now c.tail_below.ensures c.if-tail_below.true)

pub offset_bounds-tails-from-2 : goal.offset_bounds-tails-from-2
offset_bounds-tails-from-2 c =
    let a = c.args in
    omega (arith, fields_within a.n a.e _ _ _ _ _ _ a.tails.now (sym c.check_fields.ensures ∙ c.in_ok-check_fields.was))

pub slice_bounds-tail_below-end-2 : goal.slice_bounds-tail_below-end-2
slice_bounds-tail_below-end-2 c =
    let a = c.args in
    omega (arith, fields_within a.n a.e _ _ _ _ _ _ a.tails.now (sym c.check_fields.ensures ∙ c.in_ok-check_fields.was))

pub returns-then-tail_below-2 : goal.returns-then-tail_below-2
returns-then-tail_below-2 c =
    let a = c.args in
    line_unordered _ _ _ _ _ _ _ _ _ (sym c.check_fields.ensures ∙ c.in_ok-check_fields.was)
    (tail_told a.head.0 a.offset a.size a.tails.now c.tail_below.ensures c.if-tail_below.false)
    (tail_told a.n a.offset a.size a.tails.now c.tail_below-2.ensures c.if-tail_below-2.true)

pub returns : goal.returns
returns c =
    let a = c.args in
    line_tail _ _ _ _ _ _ _ _ _ (sym c.check_fields.ensures ∙ c.in_ok-check_fields.was)
    (tail_told a.head.0 a.offset a.size a.tails.now c.tail_below.ensures c.if-tail_below.false)
    (tail_told a.n a.offset a.size a.tails.now c.tail_below-2.ensures c.if-tail_below-2.false)
