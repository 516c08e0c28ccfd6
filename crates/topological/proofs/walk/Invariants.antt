-- `topological::walk` meets its contract. The invariant: the columns are those of the walk up to vertex i. Assumes nothing.
use mathlib.Core.Path.{◌≡◌}
use lib.ListN.{length}
use Rattle.columns.specs.Columns.{columns, answers}
use Rattle.topological.proofs.Whole.{walk_of}
use Rattle.topological.proofs.walk.Given as goal

abbrev pub invariant-loop-i : goal.invariant-loop-i
invariant-loop-i l =
    answers l.weights l.depths l.edges ≡ walk_of l.measure (columns (length l.initial.depths) l.table.heads.now l.table.own.now l.table.strikes.now l.table.spans.now l.table.tails.now) l.i
