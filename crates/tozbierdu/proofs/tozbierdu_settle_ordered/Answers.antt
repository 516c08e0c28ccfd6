-- `tozbierdu::tozbierdu_settle_ordered` meets its contract. Assumes nothing.
use mathlib.Core.Path.{sym, ◌∙◌}
use Rattle.tozbierdu.proofs.Laws.{ordered_refused, ordered_measure}
use Rattle.tozbierdu.proofs.tozbierdu_settle_ordered.Goals as goal

pub returns-in-Err : goal.returns-in-Err
returns-in-Err c = ordered_refused _ _ (sym c.measure_numbered-choice.ensures ∙ c.in-Err.is) c.result.ensures

pub returns-in-Ok : goal.returns-in-Ok
returns-in-Ok c =
    ordered_measure _ _ (sym c.measure_numbered-choice.ensures ∙ c.in-Ok.is) c.result-in-Ok.ensures c.settle_ordered-a.ensures
