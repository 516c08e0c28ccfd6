-- `uses::distinct` meets its contract. The invariant: as many as there are different vertices so far. Assumes nothing.
use mathlib.Core.Path.{◌≡◌}
use Prim.Native.Nat.{◌≤◌}
use Rattle.uses.specs.Uses.{distinct_in}
use Rattle.uses.proofs.distinct.Given as goal

abbrev pub invariant-loop-i : goal.invariant-loop-i
invariant-loop-i l = (l.k ≤ l.i) × (l.k ≡ distinct_in l.list l.i)
