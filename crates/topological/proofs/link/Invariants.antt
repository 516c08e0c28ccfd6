-- `topological::link` meets its contract. The invariant: the lines from e on are linked. Assumes nothing.
use mathlib.Core.Path.{◌≡◌}
use lib.ListN.{length}
use Rattle.topological.specs.Walking.{Linked}
use Rattle.topological.proofs.link.Given as goal

abbrev pub invariant-loop-e : goal.invariant-loop-e
invariant-loop-e l = (length l.next ≡ length l.initial.next) × Linked l.heads l.strikes l.first l.next l.e
