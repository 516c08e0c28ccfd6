-- `offers::all_light` meets its contract. The invariant: while the shares are 0, what is left of the column has the answer of the whole, which is false from then
-- on; and the shares are small. Assumes nothing.
use mathlib.Core.Path.{◌≡◌}
use Prim.Native.Nat.{◌*◌, ◌≤◌}
use Rattle.columns.specs.Acceptance.{all_below}
use Rattle.columns.proofs.Laws.{below_from}
use Rattle.queue.specs.Keys.{heavy}
use Rattle.offers.proofs.all_light.Given as goal

abbrev pub invariant-loop-weight : goal.invariant-loop-weight
invariant-loop-weight l =
    (l.shares ≤ l.weight-index * 16777216) × (below_from heavy l.weights l.shares l.weight-index ≡ all_below heavy l.weights)
