-- `parts::print_reply` is safe and ends: what is printed lies within the room. Assumes nothing.
use mathlib.Core.Path.{◌≡◌, sym, ap}
use mathlib.Core.List.{List}
use Prim.Native.Nat.{ℕ, ◌≤◌}
use native.Mathlib.Omega.{arith}
use lib.ListN.{length, drop, length-append}
use lib.Seq.{length-take-le}
use Rattle.columns.specs.Filled.{filled}
use Rattle.parts.proofs.print_reply.Goals as goal

-- what was put at a room's start is within it
within : (n : ℕ) (bytes old room : List ℕ) → n ≡ length bytes → room ≡ filled bytes old → n ≤ length room
unfolding filled
within n bytes old room c e = let l = length-append bytes (drop (length bytes) old) in let q = ap length e in omega arith

pub slice_bounds-room-end : goal.slice_bounds-room-end
slice_bounds-room-end g c = let w = c.reply-reply.ensures.written in within _ _ _ _ w.count w.room_is

pub slice_bounds-write_all-end : goal.slice_bounds-write_all-end
slice_bounds-write_all-end g c = let w = c.reply-reply.ensures.written in sym (length-take-le _ _ (within _ _ _ _ w.count w.room_is))
