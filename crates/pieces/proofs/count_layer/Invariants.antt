-- `pieces::count_layer` meets its contract. The invariant: of depth d the vertices from `next` on are counted, and `next` is the one before them. Assumes nothing.
use Rattle.pieces.specs.Counting.{count_of}
use Rattle.pieces.proofs.Stages.{Walked}
use Rattle.pieces.proofs.count_layer.Given as goal

abbrev pub invariant-loop-next : goal.invariant-loop-next
invariant-loop-next l = Walked l.depths (count_of l.spans l.tails l.depths l.edges) l.d l.next l.pieces

abbrev pub decreases-loop-next : goal.decreases-loop-next
decreases-loop-next l = l.next
