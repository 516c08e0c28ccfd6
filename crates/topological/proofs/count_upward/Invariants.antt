-- `topological::count_upward` meets its contract. The invariant: the vertices below i are counted. Assumes nothing.
use Rattle.topological.proofs.Counting.{Risen}
use Rattle.topological.proofs.count_upward.Given as goal

abbrev pub invariant-loop-i : goal.invariant-loop-i
invariant-loop-i l = Risen l.spans l.tails l.depths l.edges l.i l.pieces
