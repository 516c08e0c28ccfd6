-- `counter::bill` meets its contract: refused by the measure's number, or as `bill::bill` in the places that count. Assumes nothing.
use mathlib.Core.Path.{sym, ◌∙◌}
use native.Mathlib.Omega.{arith}
use lib.Seq.{length-take-le}
use Rattle.counter.proofs.Laws.{billed_refused, billed_measure}
use Rattle.counter.proofs.bill.Goals as goal

pub returns-in-Err : goal.returns-in-Err
returns-in-Err c = billed_refused _ _ _ _ (sym c.measure_numbered-choice.ensures ∙ c.in-Err.is) c.result.ensures

pub slice_bounds-bill-end-in-Ok : goal.slice_bounds-bill-end-in-Ok
slice_bounds-bill-end-in-Ok c = sym (length-take-le c.counted-places.result _ (omega (arith, c.counted-places.ensures)))

pub returns-in-Ok : goal.returns-in-Ok
returns-in-Ok c =
    billed_measure _ _ _ _ (sym c.measure_numbered-choice.ensures ∙ c.in-Ok.is) c.result-in-Ok.ensures c.counted-places.ensures c.bill-x.ensures
