-- `sample::put_mean` meets its contract, by what reading returned. Assumes nothing.
use mathlib.Core.Path.{sym}
use lib.Seq.{length-take-le}
use Rattle.sample.proofs.Said.{said_as, mean_refused, mean_said_lem, count_within}
use Rattle.sample.proofs.put_mean.Goals as goal

pub slice_bounds-column-end : goal.slice_bounds-column-end
slice_bounds-column-end c = count_within _ _ _ c.read_sample-sample.ensures _ c.in-Ok.is

pub slice_bounds-summarize-end : goal.slice_bounds-summarize-end
slice_bounds-summarize-end c = sym (length-take-le _ _ (count_within _ _ _ c.read_sample-sample.ensures _ c.in-Ok.is))

pub returns-in-Err : goal.returns-in-Err
returns-in-Err c = said_as _ _ _ (mean_refused _ _ _ c.read_sample-sample.ensures _ c.in-Err.is) c.put_refusal.ensures

pub returns-in-Ok : goal.returns-in-Ok
returns-in-Ok c =
    said_as _ _ _ (mean_said_lem _ _ _ c.read_sample-sample.ensures _ _ c.in-Ok.is c.summarize-summary.ensures) c.put_summary.ensures
