-- `compare::put_differences` meets its contract. The invariant: the rows of the parts so far are written, in at most as many times the bytes of a row. Assumes
-- nothing.
use Prim.Native.Nat.{◌*◌, ◌≤◌}
use Rattle.columns.specs.Columns.{entries}
use Rattle.writing.specs.Written.{Written}
use Rattle.compare.specs.Compare.{most_row, differences}
use Rattle.compare.proofs.put_differences.Given as goal

abbrev pub invariant-loop-i : goal.invariant-loop-i
invariant-loop-i l =
    (l.i ≤ l.n) × Written (differences (entries l.entries.weights.now l.entries.depths.now l.entries.edges.now l.entries.pieces.now) (entries l.others.weights.now l.others.depths.now l.others.edges.now l.others.pieces.now) l.i) l.initial.room l.at l.room × (l.at ≤ most_row * l.i)
