use mathlib.Core.Path.{sym, ◌∙◌}
use native.Mathlib.Nat.{sub-zero}
use native.Mathlib.Omega.{arith}
use Rattle.columns.proofs.Accepted.{edge_accepted}
use Rattle.topological.proofs.Checking.{line_passed, lines_step, lines_stop, lines_end}
use Rattle.refusal.proofs.Passed.{passed_on}
use Rattle.topological.proofs.check_lines.Goals as goal

pub loop-i-init : goal.loop-i-init
loop-i-init c = rw sub-zero

pub returns-in_err-check_line : goal.returns-in_err-check_line
returns-in_err-check_line c = rw (passed_on _ c.from_residual.ensures.1) (lines_stop _ _ _ _ _ c.loop-i-test.true (sym c.check_line.ensures ∙ c.in_err-check_line.was) ∙ c.loop-i.invariant)

pub overflow_add-end : goal.overflow_add-end
overflow_add-end c =
    omega (arith, (edge_accepted _ _ _ _ _ _ _ _ _ (line_passed _ _ _ _ _ _ _ _ _ (sym c.check_line.ensures ∙ c.in_ok-check_line.was)).0).within)

pub loop-i-preserved : goal.loop-i-preserved
loop-i-preserved c = lines_step _ _ _ _ c.loop-i-test.true (sym c.check_line.ensures ∙ c.in_ok-check_line.was) ∙ c.loop-i.invariant

pub returns : goal.returns
returns c = lines_end _ _ _ _ c.loop-i-test.false ∙ c.loop-i.invariant
