-- `reprice::check_line` meets its contract: refused as a line that does not exist, or by its mark. Assumes nothing.
use mathlib.Core.Path.{sym, ◌∙◌}
use native.Mathlib.Omega.{arith}
use Rattle.reprice.proofs.Laws.{numbered_placed, line_refused, line_struck, line_standing}
use Rattle.refusal.proofs.Passed.{passed_on}
use Rattle.reprice.proofs.check_line.Goals as goal

pub returns-in_err-check_numbered : goal.returns-in_err-check_numbered
returns-in_err-check_numbered c = rw (passed_on _ c.from_residual.ensures.1) (line_refused _ _ _ _ (sym c.check_numbered.ensures ∙ c.in_err-check_numbered.was))

pub offset_bounds-strikes-i : goal.offset_bounds-strikes-i
offset_bounds-strikes-i c = omega (arith, numbered_placed _ _ _ (sym c.check_numbered.ensures ∙ c.in_ok-check_numbered.was))

pub bounds-strikes-i : goal.bounds-strikes-i
bounds-strikes-i c = numbered_placed _ _ _ (sym c.check_numbered.ensures ∙ c.in_ok-check_numbered.was)

pub returns-then-is_struck : goal.returns-then-is_struck
returns-then-is_struck c = line_struck _ _ _ (sym c.check_numbered.ensures ∙ c.in_ok-check_numbered.was) (sym c.is_struck.ensures ∙ c.if-is_struck.true)

pub returns : goal.returns
returns c = line_standing _ _ _ (sym c.check_numbered.ensures ∙ c.in_ok-check_numbered.was) (sym c.is_struck.ensures ∙ c.if-is_struck.false)
