-- `uses::count` meets its contract. The invariant: the hyperedges below e are counted. Assumes nothing.
use mathlib.Core.Path.{◌≡◌}
use Rattle.columns.specs.Columns.{tail_of}
use Rattle.uses.specs.Uses.{pairs_in}
use Rattle.uses.specs.Indexable.{counted}
use Rattle.uses.proofs.count.Given as goal

abbrev pub invariant-loop-e : goal.invariant-loop-e
invariant-loop-e l = l.index ≡ counted (tail_of l.spans l.tails) l.e (pairs_in l.initial.index)
