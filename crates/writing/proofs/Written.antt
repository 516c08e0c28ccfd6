-- Room that is written from its start: the bytes so far, their number, and the laws of one byte more and of a piece more in the part that is lent on.
-- The paper's "Writing fills the text room from its start …; the room behind it keeps its bytes". Assumes nothing.
use Prim.Native.Nat.{ℕ, ◌+◌, ◌-◌, ◌≤◌, ◌<◌}
use mathlib.Core.Path.{◌≡◌, refl, sym, ◌∙◌, ap}
use mathlib.Core.List.{List, [], ◌∷◌, ◌++◌}
use native.Mathlib.Omega.{arith}
use lib.ListN.{length, take, drop, set, length-append, length-drop, length-set}
use Rattle.columns.specs.Filled.{filled}
use Rattle.columns.proofs.Filled.{filled_none, filled-set, filled_part, length-filled, part_whole, part_back}
use Rattle.writing.specs.Written.{Written}

pub written_none : (old : List ℕ) → Written [] old 0 old
written_none old = record { count = refl; room_is = filled_none old; long = refl }

module _ (bytes old : List ℕ) (n : ℕ) (room : List ℕ) (w : Written bytes old n room) where
  pub written_byte : (b : ℕ) → n < length old → Written (bytes ++ b ∷ []) old (n + 1) (set room n b)
  written_byte b h = record {
    count = let c = w.count in let l = length-append bytes (b ∷ []) in omega arith;
    room_is = ap (λ (z : List ℕ). set z n b) w.room_is ∙ filled-set bytes old n b (sym w.count) h;
    long = length-set room n b ∙ w.long;
  }

  -- what is lent from n on, and how much of it there is
  abbrev pub lent : List ℕ
  lent = take (length room - n) (drop n room)

  pub lent-room : (more : List ℕ) → length (bytes ++ more) ≤ length old → length more ≤ length lent
  lent-room more h =
      let l = length-append bytes more in
      let c = w.count in
      let d = length-drop n room in
      let e = w.long in
      let p : length lent ≡ length (drop n room) = ap length (part_whole room n) in
      omega arith

  pub within : (more : List ℕ) → length (bytes ++ more) ≤ length old → n ≤ length room
  within more h = let l = length-append bytes more in let c = w.count in let e = w.long in omega arith

  pub written_part : (more : List ℕ) (r : ℕ) (new : List ℕ) → length (bytes ++ more) ≤ length old → Written more lent r new
      → Written (bytes ++ more) old (n + r) (take n room ++ (new ++ drop (length room - n) (drop n room)))
  written_part more r new h m = record { count = counted; room_is = filled_on; long = ap length filled_on ∙ length-filled (bytes ++ more) old h }
    where
      counted : n + r ≡ length (bytes ++ more)
      counted = let l = length-append bytes more in let c = w.count in let d = m.count in omega arith

      filled_on : take n room ++ (new ++ drop (length room - n) (drop n room)) ≡ filled (bytes ++ more) old
      filled_on =
          part_back room new n
          ∙ ap (λ (z : List ℕ). take n room ++ z) (m.room_is ∙ ap (filled more) (part_whole room n))
          ∙ ap (λ (z : List ℕ). take n z ++ filled more (drop n z)) w.room_is
          ∙ filled_part bytes more old n (sym w.count)

pub written_as : {bytes bytes' : List ℕ} (old : List ℕ) (n : ℕ) (room : List ℕ) → bytes ≡ bytes' → Written bytes old n room → Written bytes' old n room
written_as old n room e w = record { count = w.count ∙ ap length e; room_is = w.room_is ∙ ap (λ (z : List ℕ). filled z old) e; long = w.long }

-- the first of two pieces that fit
pub first_fits : (a b old : List ℕ) → length (a ++ b) ≤ length old → length a ≤ length old
first_fits a b old h = let l = length-append a b in omega arith
