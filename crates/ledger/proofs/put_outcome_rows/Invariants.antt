-- `ledger::put_outcome_rows` meets its contract. The invariant: the rows of the events so far are written, in at most as many times the bytes of a row.
-- Assumes nothing.
use Prim.Native.Nat.{◌*◌, ◌≤◌}
use lib.ListN.{length}
use Rattle.writing.specs.Written.{Written}
use Rattle.ledger.specs.Ledger.{most_row}
use Rattle.ledger.proofs.Rows.{rows_to}
use Rattle.ledger.proofs.put_outcome_rows.Given as goal

abbrev pub invariant-loop-i : goal.invariant-loop-i
invariant-loop-i l =
    (l.i ≤ length l.parts) × Written (rows_to l.parts l.outcomes l.i) l.initial.room l.at l.room × (l.at ≤ most_row * l.i)
