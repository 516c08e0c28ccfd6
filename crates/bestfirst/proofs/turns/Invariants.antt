-- `bestfirst::turns` meets its contract. The invariant: after so many turns the columns are `turns_of` that many, and lists and queue are those of their labels.
-- Assumes nothing.
use mathlib.Core.Path.{◌≡◌}
use lib.ListN.{length}
use Rattle.columns.specs.Columns.{columns, answers}
use Rattle.waiting.specs.Lines.{lines}
use Rattle.bestfirst.specs.Turns.{Waits}
use Rattle.bestfirst.proofs.Whole.{turns_of}
use Rattle.bestfirst.proofs.turns.Given as goal

abbrev pub invariant-loop : goal.invariant-loop
invariant-loop l =
    let table = columns (length l.initial.depths) l.table.heads.now l.table.own.now l.table.strikes.now l.table.spans.now l.table.tails.now in
    (answers l.weights l.depths l.edges ≡ turns_of l.measure table l.counter)
    × Waits l.measure table l.weights l.depths (lines l.first l.next l.at l.joined l.deepest) l.queue
