-- `indextable::index_table` meets its contract: the table is refused, or it is accepted and can be indexed. Assumes nothing.
use mathlib.Core.Path.{◌≡◌, sym, ◌∙◌}
use Prim.Native.Nat.{◌*◌, ◌≤◌}
use native.Mathlib.Omega.{arith}
use lib.Seq.{length-take-le}
use Rattle.columns.specs.Columns.{Columns}
use Rattle.columns.specs.Acceptance.{acceptance}
use Rattle.indextable.proofs.Laws.{table_refused, places_few, room_enough, table_laid, in_room}
use Rattle.refusal.proofs.Passed.{passed_on}
use Rattle.indextable.proofs.index_table.Goals as goal
use Rattle.refusal.specs.Answers.{Acceptance}
use Rattle.std.specs.Prelude.{Ok}

-- an accepted table has its places in the room
few : (c : Columns) {a : Acceptance} → a ≡ acceptance c → a ≡ Ok tt → 2 * c.vertices ≤ 2048
few c e p = places_few c (sym e ∙ p)

pub returns-in_err-check_table : goal.returns-in_err-check_table
returns-in_err-check_table c = rw (passed_on _ c.from_residual.ensures.1) (table_refused _ _ _ (sym c.check_table.ensures ∙ c.in_err-check_table.was))

pub overflow_mul-places : goal.overflow_mul-places
overflow_mul-places c = omega (arith, few _ c.check_table.ensures c.in_ok-check_table.was)

pub slice_bounds-room-end : goal.slice_bounds-room-end
slice_bounds-room-end c = few _ c.check_table.ensures c.in_ok-check_table.was

pub slice_bounds-index_with-end : goal.slice_bounds-index_with-end
slice_bounds-index_with-end c = sym (length-take-le _ _ (few _ c.check_table.ensures c.in_ok-check_table.was))

pub index_with-requires : goal.index_with-requires
index_with-requires c = room_enough _ (sym c.check_table.ensures ∙ c.in_ok-check_table.was) _ (few _ c.check_table.ensures c.in_ok-check_table.was)

pub returns : goal.returns
returns c =
    table_laid _ _ _ (sym c.check_table.ensures ∙ c.in_ok-check_table.was)
    (in_room _ _ c.args.table.now.vertices _ (few _ c.check_table.ensures c.in_ok-check_table.was) _ _ c.index_with.ensures)
