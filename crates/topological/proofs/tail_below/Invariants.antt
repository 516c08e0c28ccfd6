-- `topological::tail_below` meets its contract. The invariant: what is left of the tail has the answer of the whole. Assumes nothing.
use mathlib.Core.Path.{◌≡◌}
use Rattle.columns.specs.Acceptance.{all_below}
use Rattle.columns.proofs.Laws.{below_from}
use Rattle.topological.proofs.tail_below.Given as goal

abbrev pub invariant-loop-v : goal.invariant-loop-v
invariant-loop-v l = below_from l.n l.tail 0 l.v-index ≡ all_below l.n l.tail
