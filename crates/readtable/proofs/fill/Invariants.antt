-- `readtable::fill` meets its contract. The invariant: i hyperedges and k vertices are in the columns, and the lines left are those of the text. Assumes nothing.
use Prim.Native.Nat.{◌-◌}
use lib.ListN.{length}
use Rattle.readtable.proofs.Laws.{Filling, Rooms}
use Rattle.readtable.proofs.fill.Given as goal

abbrev pub invariant-loop-at : goal.invariant-loop-at
invariant-loop-at l = record {
  filling : Filling l.text l.n l.initial.heads l.initial.own l.initial.strikes l.initial.spans l.initial.tails l.heads l.own l.strikes l.spans l.tails l.at l.i l.k;
  rooms : Rooms l.text l.heads l.own l.strikes l.spans l.tails l.at l.i l.k;
}

abbrev pub decreases-loop-at : goal.decreases-loop-at
decreases-loop-at l = length l.text - l.at
