-- `waiting::start` meets its contract. The invariant: the hyperedges from i on are still to be looked at. Assumes nothing.
use Rattle.columns.specs.Lent.{lent}
use Rattle.waiting.specs.Lines.{lines, Starting}
use Rattle.waiting.proofs.start.Given as goal

abbrev pub invariant-loop-i : goal.invariant-loop-i
invariant-loop-i l =
    Starting l.measure (lent l.table.heads.now l.table.own.now l.table.strikes.now l.table.spans.now l.table.tails.now l.depths) l.weights l.depths (lines l.first l.next l.at l.joined l.deepest) l.queue l.i
