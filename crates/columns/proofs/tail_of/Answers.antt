-- `columns::tail_of` meets its contract: the part from `from` to `to` is the span's. Assumes nothing.
use mathlib.Core.Path.{◌≡◌, ap}
use Prim.Native.Nat.{ℕ, ◌+◌, ◌-◌, ◌*◌}
use native.Mathlib.Omega.{arith}
use lib.ListN.{get_or}
use Rattle.columns.specs.Columns.{part}
use Rattle.columns.proofs.tail_of.Goals as goal

pub returns : goal.returns
returns c =
    let a = c.args in
    let from = get_or a.spans.now (2 * a.e.0) 0 in
    let size = get_or a.spans.now (2 * a.e.0 + 1) 0 in
    let e : from + size - from ≡ size = omega arith in
    ap (λ (k : ℕ). part from k a.tails.now) e
