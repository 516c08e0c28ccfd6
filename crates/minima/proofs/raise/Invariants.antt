-- `minima::raise` meets its contract: the invariant: the way up so far, with the least of four carried, and that what is left of it gives the whole. Assumes nothing.
use Rattle.minima.proofs.Laws.{Climbing}
use Rattle.minima.proofs.raise.Given as goal

abbrev pub invariant-loop-i : goal.invariant-loop-i
invariant-loop-i l = Climbing l.initial.q l.initial.i l.q l.i l.least

abbrev pub decreases-loop-i : goal.decreases-loop-i
decreases-loop-i l = l.i
