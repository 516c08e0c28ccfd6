-- `sample::put_summary` meets its contract, by what summarizing returned. Assumes nothing.
use mathlib.Core.Path.{refl}
use native.Mathlib.Omega.{arith}
use Rattle.sample.proofs.Said.{said_as, summary_refused, summary_moments}
use Rattle.sample.proofs.put_summary.Goals as goal

pub put_fractions-width-requires : goal.put_fractions-width-requires
put_fractions-width-requires c = let p = c.requires in omega arith

pub returns-in-Err : goal.returns-in-Err
returns-in-Err c = said_as _ _ _ (summary_refused _ _ c.in-Err.is) c.put_refusal.ensures

pub returns-in-Ok : goal.returns-in-Ok
returns-in-Ok c = said_as _ _ _ (summary_moments _ _ c.in-Ok.is) (record { status = refl; written = c.put_fractions-width.ensures })
