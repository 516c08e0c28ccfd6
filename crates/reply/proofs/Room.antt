-- A piece that is written behind others, by a bound on its bytes: what the loops of the commands go by. Assumes nothing.
use mathlib.Core.List.{List, ◌++◌}
use Prim.Native.Nat.{ℕ, ◌+◌, ◌-◌, ◌≤◌}
use native.Mathlib.Omega.{arith}
use lib.ListN.{length, take, drop, replicate, length-append, length-replicate}
use Rattle.writing.specs.Written.{Written}
use Rattle.writing.proofs.Written.{lent, lent-room, written_part}

-- behind n bytes there are k places, and a piece of at most k bytes is written there
module _ (bytes old : List ℕ) (n : ℕ) (room : List ℕ) (w : Written bytes old n room) (k : ℕ) (h : n + k ≤ length old) where
  pub behind_starts : n ≤ length room
  behind_starts = let l = w.long in omega arith

  pub behind_room : k ≤ length (lent bytes old n room w)
  behind_room =
      let zeros : List ℕ = replicate k 0 in
      let z = length-replicate {A = ℕ} k 0 in
      let a = length-append bytes zeros in
      let b = w.count in
      let l = lent-room bytes old n room w zeros (omega arith) in
      omega arith

  pub written_behind : (more : List ℕ) (r : ℕ) (new : List ℕ) → r ≤ k → Written more (lent bytes old n room w) r new
      → Written (bytes ++ more) old (n + r) (take n room ++ (new ++ drop (length room - n) (drop n room)))
  written_behind more r new g m =
      let a = length-append bytes more in
      let b = w.count in
      let d = m.count in
      written_part bytes old n room w more r new (omega arith) m
