-- `append::store_line` meets its contract. The invariant: the needed parts so far stand from the last span's end on. Assumes nothing.
use mathlib.Core.Path.{◌≡◌}
use mathlib.Core.List.{◌++◌}
use lib.ListN.{take}
use Rattle.columns.specs.Filled.{filled}
use Rattle.append.proofs.store_line.Given as goal

abbrev pub invariant-loop-k : goal.invariant-loop-k
invariant-loop-k l = l.tails ≡ filled (take l.end l.initial.tails ++ take l.k l.line.tail.now) l.initial.tails
