-- `writing::put_number` meets its contract. The invariant: the digits behind those of x are written. Assumes nothing.
use Rattle.writing.proofs.Laws.{Digits}
use Rattle.writing.proofs.put_number.Given as goal

abbrev pub invariant-loop-i : goal.invariant-loop-i
invariant-loop-i l = Digits l.initial.room l.room l.i l.x l.v
