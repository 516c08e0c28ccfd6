-- `topological::candidate` meets its contract. The invariant: what was passed is carried. Assumes nothing.
use Rattle.weights.specs.Measures.{algebra}
use Rattle.columns.specs.Columns.{cell}
use Rattle.offers.specs.Passing.{Carried}
use Rattle.topological.proofs.candidate.Given as goal

abbrev pub invariant-loop-listed : goal.invariant-loop-listed
invariant-loop-listed l = Carried (algebra l.measure) (cell l.weights) (cell l.depths) l.tail l.listed-index l.joined l.deepest
