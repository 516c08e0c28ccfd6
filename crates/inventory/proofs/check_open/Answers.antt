-- `inventory::check_open` meets its contract: the tests that led to a return say which is the first to fail. Assumes nothing.
use mathlib.Core.Path.{sym, ◌∙◌}
use Rattle.columns.proofs.Accepted.{columns_accepted}
use Rattle.inventory.proofs.Opening.{open_unrecorded, open_refused, open_unlevel, open_wrong, open_counts}
use Rattle.refusal.proofs.Passed.{passed_on}
use Rattle.inventory.proofs.check_open.Goals as goal

pub returns-in_err-check_record : goal.returns-in_err-check_record
returns-in_err-check_record c = rw (passed_on _ c.from_residual.ensures.1) (open_unrecorded _ _ _ _ _ _ _ (sym c.check_record.ensures ∙ c.in_err-check_record.was))

pub returns-in_err-check_lent : goal.returns-in_err-check_lent
returns-in_err-check_lent c = rw (passed_on _ c.from_residual-in_err-check_lent.ensures.1)
    (open_refused _ _ _ _ _ _ _ (sym c.check_record.ensures ∙ c.in_ok-check_record.was) (sym c.check_lent.ensures ∙ c.in_err-check_lent.was))

pub returns-then-stock-n : goal.returns-then-stock-n
returns-then-stock-n c =
    open_unlevel _ _ _ _ _ _ _ (sym c.check_record.ensures ∙ c.in_ok-check_record.was) (sym c.check_lent.ensures ∙ c.in_ok-check_lent.was) c.if-stock-n.true

pub answers_right-requires : goal.answers_right-requires
answers_right-requires c = columns_accepted _ _ (sym c.check_lent.ensures ∙ c.in_ok-check_lent.was)

pub returns-then-not-answers_right : goal.returns-then-not-answers_right
returns-then-not-answers_right c =
    open_wrong _ _ _ _ _ _ _ (sym c.check_record.ensures ∙ c.in_ok-check_record.was) (sym c.check_lent.ensures ∙ c.in_ok-check_lent.was) c.if-stock-n.false
    (sym c.answers_right.ensures ∙ c.if-not-answers_right.true)

pub returns : goal.returns
returns c =
    c.check_opening.ensures
    ∙ open_counts _ _ _ _ _ _ _ (sym c.check_record.ensures ∙ c.in_ok-check_record.was) (sym c.check_lent.ensures ∙ c.in_ok-check_lent.was) c.if-stock-n.false
    (sym c.answers_right.ensures ∙ c.if-not-answers_right.false)
