-- `offers::cap_all` meets its contract. The invariant: the column is filled with the weights so far, capped. Assumes nothing.
use mathlib.Core.Path.{◌≡◌}
use Rattle.weights.specs.Figures.{capped}
use Rattle.columns.specs.Columns.{cell}
use Rattle.columns.specs.Filled.{filled}
use Rattle.offers.specs.Values.{below}
use Rattle.offers.proofs.cap_all.Given as goal

abbrev pub invariant-loop-i : goal.invariant-loop-i
invariant-loop-i l =
    l.column ≡ filled (below (λ v. capped (cell l.weights v)) l.i) l.fn.column
