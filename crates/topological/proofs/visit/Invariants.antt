-- `topological::visit` meets its contract. The invariant: of the lines before l, `best` is the key of the first of what they offer. Assumes nothing.
use Prim.Native.Nat.{◌-◌}
use Rattle.columns.specs.Columns.{cell}
use Rattle.columns.specs.Lent.{lent}
use Rattle.topological.proofs.Linking.{Along}
use Rattle.topological.proofs.visit.Given as goal

abbrev pub invariant-loop-l : goal.invariant-loop-l
invariant-loop-l l =
    Along l.measure (lent l.table.heads.now l.table.own.now l.table.strikes.now l.table.spans.now l.table.tails.now l.depths) (cell l.weights) (cell l.depths) l.fn.v.0 l.l l.best

abbrev pub decreases-loop-l : goal.decreases-loop-l
decreases-loop-l l = 65536 - l.l
