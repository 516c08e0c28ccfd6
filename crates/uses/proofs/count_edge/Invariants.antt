-- `uses::count_edge` meets its contract. The invariant: the hyperedges below e are counted, and e for the vertices passed. Assumes nothing.
use mathlib.Core.Path.{◌≡◌}
use lib.ListN.{take}
use Rattle.columns.specs.Columns.{tail_of}
use Rattle.uses.specs.Uses.{pairs_in}
use Rattle.uses.proofs.Seen.{seen_in}
use Rattle.uses.proofs.Counting.{counted_by}
use Rattle.uses.proofs.count_edge.Given as goal

abbrev pub invariant-loop-part : goal.invariant-loop-part
invariant-loop-part l =
    l.index ≡ counted_by (tail_of l.spans l.tails) l.number (seen_in (take l.part-index (tail_of l.spans l.tails l.number))) (pairs_in l.initial.index)
