-- `shuffle::unshuffle` meets its contract. The invariant: the first i figures are gathered. Assumes nothing.
use lib.ListN.{length}
use Rattle.shuffle.proofs.Filling.{LaidBack}
use Rattle.shuffle.proofs.unshuffle.Given as goal

abbrev pub invariant-loop-i : goal.invariant-loop-i
invariant-loop-i l = LaidBack (length l.initial.own) l.bytes l.own l.i
