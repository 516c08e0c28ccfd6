-- `statistics::add_up` meets its contract. The invariant: what is added up so far and the sums of the results from x on are the sums of all. Assumes nothing.
use mathlib.Core.Path.{◌≡◌}
use Prim.Native.Nat.{◌+◌}
use lib.ListN.{drop}
use Rattle.statistics.specs.Samples.{sum, squares}
use Rattle.statistics.proofs.add_up.Given as goal

abbrev pub invariant-loop-x : goal.invariant-loop-x
invariant-loop-x l =
    (l.total + sum (drop l.x-index l.results) ≡ sum l.results) × (l.squares + squares (drop l.x-index l.results) ≡ squares l.results)
