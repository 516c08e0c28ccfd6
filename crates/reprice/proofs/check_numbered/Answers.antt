-- `reprice::check_numbered` meets its contract: the first test that fails gives the refusal. Assumes nothing.
use mathlib.Core.Path.{sym, ◌∙◌}
use borrow.Author.Tests.{lt-ltb, le-ltb}
use Rattle.reprice.specs.Repricing.{numbered_acceptance}
use Rattle.refusal.proofs.Passed.{passed_on}
use Rattle.reprice.proofs.check_numbered.Goals as goal

pub returns-in_err-check_lent : goal.returns-in_err-check_lent
unfolding numbered_acceptance
returns-in_err-check_lent c = rw (passed_on _ c.from_residual.ensures.1) (rw (sym c.check_lent.ensures ∙ c.in_err-check_lent.was))

pub returns-then-line-heads : goal.returns-then-line-heads
unfolding numbered_acceptance
returns-then-line-heads c = rw (sym c.check_lent.ensures ∙ c.in_ok-check_lent.was, le-ltb _ _ c.if-line-heads.true)

pub returns : goal.returns
unfolding numbered_acceptance
returns c = rw (sym c.check_lent.ensures ∙ c.in_ok-check_lent.was, lt-ltb _ _ c.if-line-heads.false)
