-- `uses::place` meets its contract. The invariant: the pairs below v are placed, and `sum` is the sum of their counts. Assumes nothing.
use mathlib.Core.Path.{◌≡◌}
use Rattle.uses.specs.Uses.{pairs_in}
use Rattle.uses.specs.Indexable.{running}
use Rattle.uses.proofs.Placing.{placed_to}
use Rattle.uses.proofs.place.Given as goal

abbrev pub invariant-loop-v : goal.invariant-loop-v
invariant-loop-v l =
    (l.sum ≡ running l.initial.index l.v) × (l.index ≡ placed_to l.initial.index l.v (pairs_in l.initial.index))
