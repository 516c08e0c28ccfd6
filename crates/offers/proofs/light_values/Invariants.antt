-- `offers::light_values` meets its contract. The invariant: both columns are filled with the lines so far. Assumes nothing.
use mathlib.Core.Path.{◌≡◌}
use Rattle.columns.specs.Filled.{filled}
use Rattle.offers.specs.Values.{values_of, heights_of}
use Rattle.offers.proofs.light_values.Given as goal

abbrev pub invariant-loop-i : goal.invariant-loop-i
invariant-loop-i l =
    (l.values ≡ filled (values_of l.measure l.own l.strikes l.spans l.tails l.weights l.depths l.i) l.fn.values)
    × (l.heights ≡ filled (heights_of l.measure l.own l.strikes l.spans l.tails l.weights l.depths l.i) l.fn.heights)
