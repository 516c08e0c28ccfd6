-- `report::put_priced` meets its contract, by what settling returned. Assumes nothing.
use mathlib.Core.Path.{sym, subst}
use mathlib.Core.List.{List}
use Prim.Native.Nat.{ℕ, ◌≤◌}
use lib.ListN.{length}
use Rattle.writing.proofs.Written.{written_as}
use Rattle.report.proofs.Laws.{priced_refused, priced_accepted}
use Rattle.report.proofs.put_priced.Goals as goal

pub returns-in-Err : goal.returns-in-Err
returns-in-Err c = written_as _ _ _ (sym (priced_refused _ _ _ _ _ c.settle-answer.ensures _ c.in-Err.is)) c.put_refused.ensures

pub put_list-requires : goal.put_list-requires
put_list-requires c =
    subst (λ (z : List ℕ). length z ≤ length c.args.room.now) (priced_accepted _ _ _ _ _ c.settle-answer.ensures c.in-Ok.is) c.requires.a_in_bounds

pub returns-in-Ok : goal.returns-in-Ok
returns-in-Ok c = written_as _ _ _ (sym (priced_accepted _ _ _ _ _ c.settle-answer.ensures c.in-Ok.is)) c.put_list.ensures
