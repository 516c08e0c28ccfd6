use mathlib.Core.Path.{sym, ◌∙◌}
use Rattle.tozbierdu.proofs.Laws.{restored_refused, restored_measure}
use Rattle.tozbierdu.proofs.tozbierdu_restore.Goals as goal

pub returns-in-Err : goal.returns-in-Err
returns-in-Err c = restored_refused _ _ _ (sym c.measure_numbered-choice.ensures ∙ c.in-Err.is) c.result.ensures

pub returns-in-Ok : goal.returns-in-Ok
returns-in-Ok c =
    restored_measure _ _ _ (sym c.measure_numbered-choice.ensures ∙ c.in-Ok.is) c.result-in-Ok.ensures c.restore-a.ensures
