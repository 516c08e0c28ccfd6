use mathlib.Core.Path.{sym, ◌∙◌}
use Rattle.tozbierdu.proofs.Laws.{stricken_refused, stricken_measure}
use Rattle.tozbierdu.proofs.tozbierdu_strike.Goals as goal

pub returns-in-Err : goal.returns-in-Err
returns-in-Err c = stricken_refused _ _ _ (sym c.measure_numbered-choice.ensures ∙ c.in-Err.is) c.result.ensures

pub returns-in-Ok : goal.returns-in-Ok
returns-in-Ok c =
    stricken_measure _ _ _ (sym c.measure_numbered-choice.ensures ∙ c.in-Ok.is) c.result-in-Ok.ensures c.strike-a.ensures
