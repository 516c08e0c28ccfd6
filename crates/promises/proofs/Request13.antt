-- Document 02, change request 2026-13. Assumes nothing.
use mathlib.Core.Path.{◌≡◌, refl, ◌∙◌}
use mathlib.Core.Logic.{◌≢◌}
use mathlib.Core.List.{List}
use Prim.Native.Nat.{ℕ, ◌+◌, ◌*◌, ◌/◌, ◌%◌, ◌^◌, ◌<◌}
use native.Mathlib.Omega.{arith}
use lib.ListN.{length, get_or, drop, replicate}
use Rattle.refusal.specs.Refusals.{code_of, code}
use Rattle.refusal.specs.declared.Refusal.TheVariants.{ByteRoom}
use Rattle.columns.specs.Columns.{Columns}
use Rattle.columns.specs.Right.{RightTable}
use Rattle.shuffle.specs.Bytes.{bytes_of, from_bytes, EachBelow}
use Rattle.shuffle.specs.Shuffled.{shuffled, unshuffled, outcome, shuffle_outcome, unshuffle_outcome}
use Rattle.shuffle.proofs.Bytes.{value_bytes, bytes_value, byte_is}
use Rattle.shuffle.proofs.Filling.{length-shuffled, shuffled_at}
use Rattle.shuffle.proofs.Inverse.{
  unshuffle_shuffle,
  shuffle_unshuffle,
  shuffle_accepted,
  shuffle_refused,
  unshuffle_accepted,
  unshuffle_refused,
  shuffle_then_unshuffle,
  unshuffle_then_shuffle,
  upper_nought,
}
use Rattle.std.specs.Prelude.{Ok, Err}

-- 2026-13: shuffle the figures before filing --------------------------------------------------------------------------------------------------------------------------

-- "Lay out the own-figure column of eight-byte numbers by place: all lowest bytes first, then all second bytes, up to the eighth, each time in the column's order"
pub laid_length : (xs : List ℕ) → length (shuffled xs) ≡ 8 * length xs
laid_length = length-shuffled

pub laid_byte : (xs : List ℕ) (p i : ℕ) → p < 8 → i < length xs → get_or (shuffled xs) (p * length xs + i) 0 ≡ get_or xs i 0 / 256 ^ p % 256
laid_byte xs p i h l = shuffled_at xs p i h l ∙ byte_is p (get_or xs i 0) h

-- a number below 256^k is its k bytes, and k bytes are their number's
pub bytes_are : (k x : ℕ) → x < 256 ^ k → from_bytes (bytes_of k x) ≡ x
bytes_are = value_bytes

pub number_is : (bs : List ℕ) → EachBelow 256 bs → bytes_of (length bs) (from_bytes bs) ≡ bs
number_is = bytes_value

-- "The inverse must give every column back, an empty one and figures outside the table's limits included"
pub every_column_back : (xs : List ℕ) → EachBelow 18_446_744_073_709_551_616 xs → unshuffled (length xs) (shuffled xs) ≡ xs
every_column_back = unshuffle_shuffle

-- "and the two must undo each other whichever comes first": every string of bytes is given back too, and by the calls, whatever they are to write over
pub every_bytes_back : (k : ℕ) (bs : List ℕ) → length bs ≡ 8 * k → EachBelow 256 bs → shuffled (unshuffled k bs) ≡ bs
every_bytes_back = shuffle_unshuffle

pub column_by_the_calls : (own room other : List ℕ) → EachBelow 18_446_744_073_709_551_616 own → length room ≡ 8 * length own → length other ≡ length own
    → unshuffle_outcome (shuffle_outcome own room).left other ≡ outcome (Ok tt) own
column_by_the_calls = shuffle_then_unshuffle

pub bytes_by_the_calls : (bytes own room : List ℕ) → EachBelow 256 bytes → length bytes ≡ 8 * length own → length room ≡ length bytes
    → shuffle_outcome (unshuffle_outcome bytes own).left room ≡ outcome (Ok tt) bytes
bytes_by_the_calls = unshuffle_then_shuffle

-- "Turned away: only 27 if the byte room isn't exactly eight times the column's length": of any column and any bytes, and then nothing is written
pub shuffling_accepted : (own room : List ℕ) → length room ≡ 8 * length own → shuffle_outcome own room ≡ outcome (Ok tt) (shuffled own)
shuffling_accepted = shuffle_accepted

pub shuffling_refused : (own room : List ℕ) → length room ≢ 8 * length own → shuffle_outcome own room ≡ outcome (Err ByteRoom) room
shuffling_refused = shuffle_refused

pub unshuffling_accepted : (bytes own : List ℕ) → length bytes ≡ 8 * length own → unshuffle_outcome bytes own ≡ outcome (Ok tt) (unshuffled (length own) bytes)
unshuffling_accepted = unshuffle_accepted

pub unshuffling_refused : (bytes own : List ℕ) → length bytes ≢ 8 * length own → unshuffle_outcome bytes own ≡ outcome (Err ByteRoom) own
unshuffling_refused = unshuffle_refused

pub byte_room_is : code_of ByteRoom ≡ code 27 0
byte_room_is = refl

-- "the upper four bytes of our figures are always 0": the last half of an accepted table's column
pub upper_is_nought : (c : Columns) → RightTable c → drop (4 * length c.own) (shuffled c.own) ≡ replicate {A = ℕ} (4 * length c.own) 0
upper_is_nought c t = upper_nought c.own (λ e h. omega (arith, (t.each e (omega (arith, t.level.own))).own))
