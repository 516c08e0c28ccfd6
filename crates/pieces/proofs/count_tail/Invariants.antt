-- `pieces::count_tail` meets its contract. The invariant: the sum is that of the vertices passed. Assumes nothing.
use mathlib.Core.Path.{◌≡◌}
use Rattle.columns.specs.Columns.{cell}
use Rattle.pieces.proofs.Sums.{sum_to}
use Rattle.pieces.proofs.count_tail.Given as goal

abbrev pub invariant-loop-part : goal.invariant-loop-part
invariant-loop-part l = l.sum ≡ sum_to (cell l.pieces) l.tail l.part-index
