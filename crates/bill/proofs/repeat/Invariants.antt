-- `bill::repeat` meets its contract. The invariant: as many of the places before `at` are copied as the loop has turned. Assumes nothing.
use Prim.Native.Nat.{◌-◌}
use Rattle.bill.specs.Walk.{Copied}
use Rattle.bill.proofs.repeat.Given as goal

abbrev pub invariant-loop-k : goal.invariant-loop-k
invariant-loop-k l = Copied l.at l.size l.initial.room l.k l.room

abbrev pub decreases-loop-k : goal.decreases-loop-k
decreases-loop-k l = l.size - l.k
