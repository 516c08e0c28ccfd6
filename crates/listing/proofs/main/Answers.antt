-- `listing::main` is safe and ends: what is written lies within its array. Assumes nothing.
use mathlib.Core.Path.{◌≡◌, sym, ap}
use mathlib.Core.List.{List}
use Prim.Native.Nat.{ℕ, ◌≤◌}
use native.Mathlib.Omega.{arith}
use lib.ListN.{length, drop, length-append}
use lib.Seq.{length-take-le}
use Rattle.columns.specs.Filled.{filled}
use Rattle.listing.proofs.main.Goals as goal

-- what was put at a room's start is within it
within : (n : ℕ) (bytes old room : List ℕ) → n ≡ length bytes → room ≡ filled bytes old → n ≤ length room
unfolding filled
within n bytes old room c e = let l = length-append bytes (drop (length bytes) old) in let q = ap length e in omega arith

pub slice_bounds-room-end : goal.slice_bounds-room-end
slice_bounds-room-end c = within _ _ _ _ c.conclude-width.ensures.value c.conclude-width.ensures.room_after

pub slice_bounds-write_all-end : goal.slice_bounds-write_all-end
slice_bounds-write_all-end c = sym (length-take-le _ _ (within _ _ _ _ c.conclude-width.ensures.value c.conclude-width.ensures.room_after))
