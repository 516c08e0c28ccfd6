-- `reprice::check_struck` meets its contract: refused as a line that does not exist, or as one that stands. Assumes nothing.
use mathlib.Core.Path.{sym, ◌∙◌}
use native.Mathlib.Omega.{arith}
use Rattle.reprice.proofs.Laws.{numbered_placed, struck_refused, struck_standing, struck_struck}
use Rattle.refusal.proofs.Passed.{passed_on}
use Rattle.reprice.proofs.check_struck.Goals as goal

pub returns-in_err-check_numbered : goal.returns-in_err-check_numbered
returns-in_err-check_numbered c = rw (passed_on _ c.from_residual.ensures.1) (struck_refused _ _ _ _ (sym c.check_numbered.ensures ∙ c.in_err-check_numbered.was))

pub offset_bounds-strikes-i : goal.offset_bounds-strikes-i
offset_bounds-strikes-i c = omega (arith, numbered_placed _ _ _ (sym c.check_numbered.ensures ∙ c.in_ok-check_numbered.was))

pub bounds-strikes-i : goal.bounds-strikes-i
bounds-strikes-i c = numbered_placed _ _ _ (sym c.check_numbered.ensures ∙ c.in_ok-check_numbered.was)

pub returns-then-not-is_struck : goal.returns-then-not-is_struck
returns-then-not-is_struck c = struck_standing _ _ _ (sym c.check_numbered.ensures ∙ c.in_ok-check_numbered.was) (sym c.is_struck.ensures ∙ c.if-not-is_struck.true)

pub returns : goal.returns
returns c = struck_struck _ _ _ (sym c.check_numbered.ensures ∙ c.in_ok-check_numbered.was) (sym c.is_struck.ensures ∙ c.if-not-is_struck.false)
