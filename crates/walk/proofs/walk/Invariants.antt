-- `walk::walk` meets its contract. The invariant: the lines passed make a table, and what is left has the answer of the whole. Assumes nothing.
use Prim.Native.Nat.{◌-◌}
use lib.ListN.{length}
use Rattle.weights.specs.declared.Measure.{Measure}
use Rattle.reading.proofs.Scanning.{Scanning}
use Rattle.walk.proofs.walk.Given as goal

abbrev pub invariant-loop-at : goal.invariant-loop-at
invariant-loop-at g l = (m : Measure) × Scanning l.text l.first.vertices m l.at l.edges l.listed

abbrev pub decreases-loop-at : goal.decreases-loop-at
decreases-loop-at g l = length l.text - l.at
