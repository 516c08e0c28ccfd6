-- `desk::put_acceptance` meets its contract, by whether the answer is a refusal. Assumes nothing.
use mathlib.Core.Path.{refl}
use Rattle.writing.proofs.Written.{written_none}
use Rattle.desk.proofs.Laws.{replied_as, acceptance_refused, acceptance_accepted}
use Rattle.desk.proofs.put_acceptance.Goals as goal

pub returns-in-Err : goal.returns-in-Err
returns-in-Err c = replied_as _ _ _ (acceptance_refused _ _ c.in-Err.is) c.put_refusal.ensures

pub returns-in-Ok : goal.returns-in-Ok
returns-in-Ok c = replied_as _ _ _ (acceptance_accepted _ c.in-Ok.is) (record { status = refl; written = written_none _ })
