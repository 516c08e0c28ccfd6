-- The laws by which digits are counted and written, and a list is measured. Assumes nothing.
use mathlib.Core.Path.{◌≡◌, refl, sym, ◌∙◌, ap}
use mathlib.Core.List.{List, [], ◌∷◌, ◌++◌, append_assoc, append-nil}
use Prim.Native.Nat.{ℕ, suc, ◌+◌, ◌-◌, ◌/◌, ◌%◌, ◌≤◌, ◌<◌}
use native.Mathlib.Omega.{arith}
use lib.ListN.{length, get_or, take, drop, set, length-append, length-set, take-append-drop}
use lib.Seq.{take-suc, set_at, length-take-le, take_all}
use Rattle.text.specs.Render.{digits, tail_text}
use Rattle.text.proofs.Digits.{digits_one}
use Rattle.text.proofs.Sound.{tail_text-append}
use Rattle.columns.specs.Filled.{filled}
use Rattle.columns.proofs.Filled.{length-filled}
use Rattle.writing.proofs.Widths.{last_digit, width_more, width_one, one_listed}
use Rattle.writing.specs.Written.{Written}
use Rattle.writing.proofs.Written.{written_byte, lent, lent-room, within, written_part, written_as}

-- Numbers ------------------------------------------------------------------------------------------------------------------------------------

-- the digits behind those of x are written, from place i on
pub record Digits (old room : List ℕ) (i x v : ℕ) : Type 0 where
  pub behind : List ℕ
  pub split : digits v ≡ digits x ++ behind
  pub place : i ≡ length (digits x)
  pub room_is : room ≡ take i old ++ (behind ++ drop (length (digits v)) old)
  pub fits : i ≤ length old
  pub long : length room ≡ length old

pub digits_none : (old : List ℕ) (i v : ℕ) → i ≡ length (digits v) → i ≤ length old → Digits old old i v v
digits_none old i v e h = record {
  behind = [];
  split = sym (append-nil (digits v));
  place = e;
  room_is = sym (take-append-drop i old) ∙ ap (λ (z : ℕ). take i old ++ drop z old) e;
  fits = h;
  long = refl;
}

-- one byte before what is written
set_before : (old t : List ℕ) (i d : ℕ) → 0 < i → i ≤ length old → set (take i old ++ t) (i - 1) d ≡ take (i - 1) old ++ (d ∷ t)
set_before old t i d p h =
    let q : i ≡ suc (i - 1) = omega arith in
    ap (λ (z : List ℕ). set (z ++ t) (i - 1) d) (ap (λ (z : ℕ). take z old) q ∙ take-suc old (i - 1) 0 (omega arith))
    ∙ ap (λ (z : List ℕ). set z (i - 1) d) (append_assoc (take (i - 1) old) (get_or old (i - 1) 0 ∷ []) t)
    ∙ set_at (take (i - 1) old) (get_or old (i - 1) 0) t d (i - 1) (length-take-le (i - 1) old (omega arith))

pub digits_next : (old room : List ℕ) (i x v : ℕ) → 10 ≤ x → Digits old room i x v → Digits old (set room (i - 1) (48 + x % 10)) (i - 1) (x / 10) v
digits_next old room i x v h w =
    let a = w.place in
    let b = width_more x h in
    let f = w.fits in
    record {
      behind = (48 + x % 10) ∷ w.behind;
      split = w.split ∙ ap (λ (z : List ℕ). z ++ w.behind) (last_digit x h) ∙ append_assoc (digits (x / 10)) ((48 + x % 10) ∷ []) w.behind;
      place = omega arith;
      room_is = ap (λ (z : List ℕ). set z (i - 1) (48 + x % 10)) w.room_is ∙ set_before old _ i (48 + x % 10) (omega arith) f;
      fits = omega arith;
      long = length-set room (i - 1) (48 + x % 10) ∙ w.long;
    }

pub digits_written : (old room : List ℕ) (i x v n : ℕ) → x < 10 → n ≡ length (digits v) → Digits old room i x v → Written (digits v) old n (set room 0 (48 + x))
unfolding filled
digits_written old room i x v n h c w = record {
  count = c;
  room_is =
      ap (λ (z : List ℕ). set z 0 (48 + x)) w.room_is ∙ ap (λ (z : ℕ). set (take i old ++ t) z (48 + x)) q ∙ set_before old t i (48 + x) pos w.fits
      ∙ ap (λ (z : ℕ). take z old ++ ((48 + x) ∷ t)) (sym q)
      ∙ ap (λ (z : List ℕ). z ++ drop (length (digits v)) old) (sym (w.split ∙ ap (λ (z : List ℕ). z ++ w.behind) (digits_one x h)));
  long = length-set room 0 (48 + x) ∙ w.long;
}
  where
    t : List ℕ
    t = w.behind ++ drop (length (digits v)) old

    pos : 0 < i
    pos = let a = w.place in let b = width_one x h in omega arith

    q : 0 ≡ i - 1
    q = let a = w.place in let b = width_one x h in omega arith

-- Bytes --------------------------------------------------------------------------------------------------------------------------------------

pub bytes_copied : (bytes old new : List ℕ) → new ≡ bytes → length bytes ≤ length old → Written bytes old (length bytes) (new ++ drop (length bytes) old)
unfolding filled
bytes_copied bytes old new e h =
    let q : new ++ drop (length bytes) old ≡ filled bytes old = ap (λ (z : List ℕ). z ++ drop (length bytes) old) e in
    record { count = refl; room_is = q; long = ap length q ∙ length-filled bytes old h }

-- Pieces of a line, and of the first line --------------------------------------------------------------------------------------------------------

-- what is listed so far is shorter than the whole list with its LF
pub listed_within : (vs : List ℕ) (j : ℕ) → length (tail_text (take j vs)) < length (tail_text vs ++ 10 ∷ [])
listed_within vs j =
    let a = length-append (tail_text vs) (10 ∷ []) in
    let b : length (tail_text vs) ≡ length (tail_text (take j vs)) + length (tail_text (drop j vs)) =
    ap (λ (z : List ℕ). length (tail_text z)) (sym (take-append-drop j vs)) ∙ ap length (tail_text-append (take j vs) (drop j vs)) ∙ length-append (tail_text (take j vs)) (tail_text (drop j vs)) in
    omega arith

pub tail_next : (vs old room : List ℕ) (j n r : ℕ) (new : List ℕ) → j < length vs → (w : Written (tail_text (take j vs)) old n room) → length (tail_text vs ++ 10 ∷ []) ≤ length old
    → Written (32 ∷ digits (get_or vs j 0)) (lent (tail_text (take j vs)) old n room w) r new
    → Written (tail_text (take (j + 1) vs)) old (n + r) (take n room ++ (new ++ drop (length room - n) (drop n room)))
tail_next vs old room j n r new h w l m =
    let q = one_listed vs j h in
    let a = listed_within vs (j + 1) in
    let b = ap length q in
    written_as old (n + r) (take n room ++ (new ++ drop (length room - n) (drop n room))) (sym q) (written_part (tail_text (take j vs)) old n room w (32 ∷ digits (get_or vs j 0)) r new (omega arith) m)

pub tail_room : (vs old room : List ℕ) (j n : ℕ) → j < length vs → (w : Written (tail_text (take j vs)) old n room) → length (tail_text vs ++ 10 ∷ []) ≤ length old
    → (n ≤ length room) × (length (32 ∷ digits (get_or vs j 0)) ≤ length (lent (tail_text (take j vs)) old n room w))
tail_room vs old room j n h w l =
    let q = one_listed vs j h in
    let a = listed_within vs (j + 1) in
    let b = ap length q in
    let f : length (tail_text (take j vs) ++ (32 ∷ digits (get_or vs j 0))) ≤ length old = omega arith in
    (within (tail_text (take j vs)) old n room w (32 ∷ digits (get_or vs j 0)) f, lent-room (tail_text (take j vs)) old n room w (32 ∷ digits (get_or vs j 0)) f)

pub tail_ends : (vs old room : List ℕ) (j n : ℕ) → length vs ≤ j → Written (tail_text (take j vs)) old n room → length (tail_text vs ++ 10 ∷ []) ≤ length old
    → Written (tail_text vs ++ 10 ∷ []) old (n + 1) (set room n 10)
tail_ends vs old room j n h w l =
    let a = listed_within vs j in
    let c = w.count in
    written_as old (n + 1) (set room n 10) (ap (λ (z : List ℕ). tail_text z ++ 10 ∷ []) (take_all j vs h)) (written_byte (tail_text (take j vs)) old n room w 10 (omega arith))
