use mathlib.Core.Path.{sym, ◌∙◌}
use Rattle.tozbierdu.proofs.Laws.{checked_refused, checked_measure}
use Rattle.tozbierdu.proofs.tozbierdu_check_answers.Goals as goal

pub returns-in-Err : goal.returns-in-Err
returns-in-Err c = checked_refused _ _ (sym c.measure_numbered-choice.ensures ∙ c.in-Err.is) c.result.ensures

pub returns-in-Ok : goal.returns-in-Ok
returns-in-Ok c =
    checked_measure _ _ (sym c.measure_numbered-choice.ensures ∙ c.in-Ok.is)
    c.result-in-Ok.ensures c.check_answers-v.ensures
