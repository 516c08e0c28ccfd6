-- `counter::settle` meets its contract: refused by the measure's number, or as `settle::settle`. Assumes nothing.
use mathlib.Core.Path.{sym, ◌∙◌}
use Rattle.counter.proofs.Laws.{settled_refused, settled_measure}
use Rattle.counter.proofs.settle.Goals as goal

pub returns-in-Err : goal.returns-in-Err
returns-in-Err c = settled_refused _ _ (sym c.measure_numbered-choice.ensures ∙ c.in-Err.is) c.result.ensures

pub returns-in-Ok : goal.returns-in-Ok
returns-in-Ok c =
    settled_measure _ _ (sym c.measure_numbered-choice.ensures ∙ c.in-Ok.is) c.result-in-Ok.ensures c.settle-a.ensures
