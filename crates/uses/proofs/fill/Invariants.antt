-- `uses::fill` meets its contract. The invariant: the uses below e stand. Assumes nothing.
use Rattle.columns.specs.Columns.{tail_of}
use Rattle.uses.specs.Uses.{pairs_in}
use Rattle.uses.specs.Indexable.{FilledTo}
use Rattle.uses.proofs.fill.Given as goal

abbrev pub invariant-loop-e : goal.invariant-loop-e
invariant-loop-e l = FilledTo (tail_of l.spans l.tails) (pairs_in l.spans) (pairs_in l.initial.index) l.e l.index l.list l.initial.list
