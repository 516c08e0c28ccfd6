-- `shuffle::shuffle` meets its contract. The invariant: the bytes of the first i figures are in their places. Assumes nothing.
use Rattle.shuffle.proofs.Filling.{Laid}
use Rattle.shuffle.proofs.shuffle.Given as goal

abbrev pub invariant-loop-i : goal.invariant-loop-i
invariant-loop-i l = Laid l.own l.room l.i
