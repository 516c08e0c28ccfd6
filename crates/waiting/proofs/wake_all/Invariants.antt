-- `waiting::wake_all` meets its contract. The invariant: what is left of the list is still to be looked at. The measure is its length. Assumes nothing.
use Rattle.columns.specs.Lent.{lent}
use Rattle.waiting.specs.Lines.{lines, Waking}
use Rattle.waiting.proofs.Short.{steps}
use Rattle.waiting.proofs.wake_all.Given as goal

abbrev pub invariant-loop-l : goal.invariant-loop-l
invariant-loop-l l =
    Waking l.measure (lent l.table.heads.now l.table.own.now l.table.strikes.now l.table.spans.now l.table.tails.now l.depths) l.weights l.depths (lines l.first l.next l.at l.joined l.deepest) l.queue l.place l.l

abbrev pub decreases-loop-l : goal.decreases-loop-l
decreases-loop-l l = steps l.next 4096 l.l
