-- `reading::check_lines` meets its contract. The invariant: the lines passed make a table, and what is left has the answer of the whole. Assumes nothing.
use mathlib.Core.Path.{◌≡◌}
use Prim.Native.Nat.{◌-◌}
use lib.ListN.{length}
use Rattle.columns.specs.Acceptance.{longest_tail}
use Rattle.reading.proofs.Scanning.{Scanning}
use Rattle.reading.proofs.check_lines.Given as goal

abbrev pub invariant-loop-at : goal.invariant-loop-at
invariant-loop-at l = (length l.room ≡ longest_tail) × Scanning l.text l.n l.measure l.at l.edges l.listed

abbrev pub decreases-loop-at : goal.decreases-loop-at
decreases-loop-at l = length l.text - l.at
