-- `pieces::count_in` meets its contract. The invariant: the depths below d are counted. Assumes nothing.
use lib.ListN.{length}
use Rattle.pieces.specs.Counting.{count_of, Staged}
use Rattle.pieces.proofs.count_in.Given as goal

abbrev pub invariant-loop-d : goal.invariant-loop-d
invariant-loop-d l = Staged l.depths (count_of l.spans l.tails l.depths l.edges) l.d (length l.depths) l.pieces
