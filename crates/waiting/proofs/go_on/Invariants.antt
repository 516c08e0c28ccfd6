-- `waiting::go_on` meets its contract. The invariant: what was passed is carried. Assumes nothing.
use Rattle.weights.specs.Measures.{algebra}
use Rattle.columns.specs.Columns.{cell}
use Rattle.offers.specs.Passing.{Carried}
use Rattle.waiting.proofs.go_on.Given as goal

abbrev pub invariant-loop-at : goal.invariant-loop-at
invariant-loop-at l = Carried (algebra l.measure) (cell l.weights) (cell l.depths) l.tail l.at l.joined.0 l.deepest
