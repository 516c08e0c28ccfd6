-- `sample::result_at` meets its contract, by what stands at the place and behind it. Assumes nothing.
use mathlib.Core.Path.{sym, ◌∙◌}
use native.Mathlib.Omega.{arith}
use Rattle.cursor.proofs.Counts.{byte_within}
use Rattle.sample.proofs.Results.{result_end, result_none, result_number, result_other}
use Rattle.sample.proofs.result_at.Goals as goal

pub returns-then-at-text : goal.returns-then-at-text
returns-then-at-text c = result_end _ _ c.if-at-text.true

pub returns-in_default : goal.returns-in_default
returns-in_default c = result_none _ _ c.number_at-token.result c.if-at-text.false c.number_at-token.ensures c.in_default.is

pub overflow_add-next : goal.overflow_add-next
overflow_add-next c =
    let a = c.args in
    omega (arith, byte_within a.text.now c.number_at-token.result.stop 10 (sym c.byte_at-behind.ensures ∙ c.if-behind-eq10.true) (omega arith))

pub returns-then-behind-eq10 : goal.returns-then-behind-eq10
returns-then-behind-eq10 c =
    result_number _ _ c.number_at-token.result _ c.if-at-text.false c.number_at-token.ensures c.in-Some.is (sym c.byte_at-behind.ensures ∙ c.if-behind-eq10.true)

pub returns : goal.returns
returns c =
    result_other _ _ c.number_at-token.result _ c.if-at-text.false c.number_at-token.ensures c.in-Some.is (λ e. c.if-behind-eq10.false (c.byte_at-behind.ensures ∙ e))
