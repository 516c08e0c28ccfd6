-- `offers::candidate` meets its contract. The invariant: what was passed is carried. Assumes nothing.
use Rattle.weights.specs.Measures.{algebra}
use Rattle.columns.specs.Columns.{cell}
use Rattle.offers.specs.Passing.{Carried}
use Rattle.offers.proofs.candidate.Given as goal

abbrev pub invariant-loop-part : goal.invariant-loop-part
invariant-loop-part l = Carried (algebra l.measure) (cell l.weights) (cell l.depths) l.tail l.part-index l.joined l.deepest
