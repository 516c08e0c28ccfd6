-- `uses::fill_edge` meets its contract. The invariant: the uses below e stand, and e for the vertices passed. Assumes nothing.
use lib.ListN.{take}
use Rattle.columns.specs.Columns.{tail_of}
use Rattle.uses.specs.Uses.{pairs_in}
use Rattle.uses.proofs.Seen.{seen_in}
use Rattle.uses.proofs.Filling.{FilledBy}
use Rattle.uses.proofs.fill_edge.Given as goal

abbrev pub invariant-loop-part : goal.invariant-loop-part
invariant-loop-part l =
    FilledBy (tail_of l.spans l.tails) (pairs_in l.spans) (pairs_in l.initial.index) l.e.0 (seen_in (take l.part-index (tail_of l.spans l.tails l.e.0))) l.index l.list l.initial.list
