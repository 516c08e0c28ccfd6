-- `counter::reprice` meets its contract: refused by the measure's number, or as `reprice::reprice`. Assumes nothing.
use mathlib.Core.Path.{sym, ◌∙◌}
use Rattle.counter.proofs.Laws.{repriced_refused, repriced_measure}
use Rattle.counter.proofs.reprice.Goals as goal

pub returns-in-Err : goal.returns-in-Err
returns-in-Err c = repriced_refused _ _ _ _ (sym c.measure_numbered-choice.ensures ∙ c.in-Err.is) c.result.ensures

pub returns-in-Ok : goal.returns-in-Ok
returns-in-Ok c =
    repriced_measure _ _ _ _ (sym c.measure_numbered-choice.ensures ∙ c.in-Ok.is) c.result-in-Ok.ensures c.reprice-a.ensures
