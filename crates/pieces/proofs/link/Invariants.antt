-- `pieces::link` meets its contract. The invariant: the vertices below i are linked. Assumes nothing.
use lib.ListN.{length}
use Rattle.pieces.specs.Counting.{Linked, Deepest}
use Rattle.pieces.proofs.link.Given as goal

abbrev pub invariant-loop-i : goal.invariant-loop-i
invariant-loop-i l = Linked l.depths (length l.initial.last) l.i l.last l.pieces × Deepest l.depths (length l.initial.last) l.i l.deepest
