-- `inventory::count` meets its contract. The invariant: what is counted so far, and how often v stands in the rest, is how often it stands in the list. Assumes nothing.
use mathlib.Core.Path.{◌≡◌}
use Prim.Native.Nat.{◌+◌, ◌≤◌}
use lib.ListN.{drop}
use Rattle.provenance.specs.Counting.{count}
use Rattle.inventory.proofs.count.Given as goal

abbrev pub invariant-loop-x : goal.invariant-loop-x
invariant-loop-x l = (l.times ≤ l.x-index) × (l.times + count l.v.0 (drop l.x-index l.list) ≡ count l.v.0 l.list)
