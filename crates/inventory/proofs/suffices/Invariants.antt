-- `inventory::suffices` meets its contract. The invariant: the rest of the tail has the answer of the whole. Assumes nothing.
use mathlib.Core.Path.{◌≡◌}
use lib.ListN.{drop}
use Rattle.inventory.specs.Replaying.{holds, suffices}
use Rattle.inventory.proofs.suffices.Given as goal

abbrev pub invariant-loop-u : goal.invariant-loop-u
invariant-loop-u l = holds l.stock l.tail (drop l.u-index l.tail) ≡ suffices l.stock l.tail
