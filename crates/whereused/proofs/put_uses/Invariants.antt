-- `whereused::put_uses` meets its contract. The invariant: the rows of the lines so far that need the part are written. Assumes nothing.
use Prim.Native.Nat.{◌*◌, ◌≤◌}
use lib.ListN.{length}
use Rattle.columns.specs.Columns.{columns}
use Rattle.writing.specs.Written.{Written}
use Rattle.whereused.specs.WhereUsed.{most_use}
use Rattle.whereused.proofs.Rows.{below}
use Rattle.whereused.proofs.put_uses.Given as goal

abbrev pub invariant-loop-i : goal.invariant-loop-i
invariant-loop-i l =
    (l.i ≤ length l.table.heads.now) × Written (below (columns l.table.vertices l.table.heads.now l.table.own.now l.table.strikes.now l.table.spans.now l.table.tails.now) l.part.0 l.i) l.initial.room l.at l.room × (l.at ≤ most_use * l.i)
