-- `settle::settle` meets its contract: the columns are refused, or they are accepted and `label` leaves the answers in them. Assumes nothing.
use mathlib.Core.Path.{sym, ◌∙◌}
use Rattle.columns.proofs.Accepted.{columns_accepted}
use Rattle.settle.proofs.Settled.{settled_refused, settled-all, told_accepted, told_answers}
use Rattle.refusal.proofs.Passed.{passed_on}
use Rattle.settle.proofs.settle.Goals as goal

pub returns-in_err-check_lent : goal.returns-in_err-check_lent
returns-in_err-check_lent c = rw (passed_on _ c.from_residual.ensures.1) (settled_refused _ _ _ _ (sym c.check_lent.ensures ∙ c.in_err-check_lent.was))

pub label-requires : goal.label-requires
label-requires c = told_accepted _ _ (columns_accepted _ _ (sym c.check_lent.ensures ∙ c.in_ok-check_lent.was))

pub returns : goal.returns
returns c =
    settled-all c.args.measure _ _ _ (sym c.check_lent.ensures ∙ c.in_ok-check_lent.was)
    (told_answers _ _ (columns_accepted _ _ (sym c.check_lent.ensures ∙ c.in_ok-check_lent.was)) c.args.measure c.label.ensures)
