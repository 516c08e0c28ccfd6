-- `append::end_of` meets its contract: the sum is within the limit. Assumes nothing.
use mathlib.Core.Path.{sym}
use native.Mathlib.Omega.{arith}
use Rattle.append.proofs.Checks.{end_none, end_last}
use Rattle.append.proofs.end_of.Goals as goal

pub returns-then-lines-eq0 : goal.returns-then-lines-eq0
returns-then-lines-eq0 c = sym (end_none _ _ c.if-lines-eq0.true)

pub overflow_add-result : goal.overflow_add-result
overflow_add-result c =
    let a = c.args in
    omega (arith, end_last a.spans.now a.lines c.if-lines-eq0.false, c.requires.1)

pub returns : goal.returns
returns c =
    let a = c.args in
    sym (end_last a.spans.now a.lines c.if-lines-eq0.false)
