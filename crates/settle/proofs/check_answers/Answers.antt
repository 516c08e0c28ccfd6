-- `settle::check_answers` meets its contract: where the table is accepted, what `answers_right` says decides. Assumes nothing.
use mathlib.Core.Path.{sym, ◌∙◌}
use Rattle.columns.proofs.Accepted.{columns_accepted}
use Rattle.settle.proofs.Checked.{checked_refused, checked_told}
use Rattle.refusal.proofs.Passed.{passed_on}
use Rattle.settle.proofs.check_answers.Goals as goal

pub returns-in_err-check_lent : goal.returns-in_err-check_lent
returns-in_err-check_lent c = rw (passed_on _ c.from_residual.ensures.1) (checked_refused _ _ _ _ (sym c.check_lent.ensures ∙ c.in_err-check_lent.was))

pub answers_right-requires : goal.answers_right-requires
answers_right-requires c =
    columns_accepted _ _ (sym c.check_lent.ensures ∙ c.in_ok-check_lent.was)

pub returns : goal.returns
returns c =
    checked_told _ _ _ _ (sym c.check_lent.ensures ∙ c.in_ok-check_lent.was) (sym c.answers_right.ensures)
