-- `inventory::consume` meets its contract. The invariant: the rest of the tail takes from the shelf what is still owed to the whole, and there is enough for it. Assumes nothing.
use mathlib.Core.Path.{◌≡◌}
use lib.ListN.{drop}
use Rattle.inventory.specs.Replaying.{consumed}
use Rattle.inventory.proofs.Taking.{Enough}
use Rattle.inventory.proofs.consume.Given as goal

abbrev pub invariant-loop-u : goal.invariant-loop-u
invariant-loop-u l = (consumed l.stock (drop l.u-index l.tail) ≡ consumed l.initial.stock l.tail) × Enough l.stock (drop l.u-index l.tail)
