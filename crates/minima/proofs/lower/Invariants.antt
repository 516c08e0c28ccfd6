-- `minima::lower` meets its contract: the invariant: the way up so far, and that what is left of it gives the whole. Assumes nothing.
use Rattle.minima.proofs.Laws.{Left}
use Rattle.minima.proofs.lower.Given as goal

abbrev pub invariant-loop-i : goal.invariant-loop-i
invariant-loop-i l = Left l.initial.q l.v l.x l.q l.i

abbrev pub decreases-loop-i : goal.decreases-loop-i
decreases-loop-i l = l.i
