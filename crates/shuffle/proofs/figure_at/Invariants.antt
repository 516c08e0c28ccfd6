-- `shuffle::figure_at` meets its contract. The invariant: the first p bytes are read. Assumes nothing.
use mathlib.Core.Path.{◌≡◌}
use Prim.Native.Nat.{ℕ, ◌+◌, ◌*◌, ◌<◌}
use lib.ListN.{get_or}
use Rattle.shuffle.proofs.figure_at.Given as goal

abbrev pub invariant-loop-p : goal.invariant-loop-p
invariant-loop-p l = (q : ℕ) → q < l.p → get_or l.byte-items q 0 ≡ get_or l.bytes (q * l.k + l.i) 0
