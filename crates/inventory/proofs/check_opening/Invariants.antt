-- `inventory::check_opening` meets its contract. The invariant: the counts from i on have the answer of all. Assumes nothing.
use mathlib.Core.Path.{◌≡◌}
use lib.ListN.{drop}
use Rattle.inventory.specs.Replaying.{opening_acceptance}
use Rattle.inventory.proofs.check_opening.Given as goal

abbrev pub invariant-loop-i : goal.invariant-loop-i
invariant-loop-i l = opening_acceptance l.i (drop l.i l.stock) ≡ opening_acceptance 0 l.stock
