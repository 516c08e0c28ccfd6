-- The reading of a number stops where it must, at every place of every text and below every limit. Assumes nothing.
use Prim.Native.Nat.{ℕ, suc, ◌+◌, ◌*◌, ◌-◌, ◌≤◌, ◌<◌}
use mathlib.Core.Path.{◌≡◌, refl, sym, ◌∙◌, ap, subst}
use mathlib.Core.List.{List, [], ◌∷◌, ◌++◌}
use mathlib.Core.Logic.{◌⊎◌, inl, inr, ⊎_elim}
use native.Mathlib.Omega.{arith}
use lib.ListN.{length, take, drop, length-append, length-drop, take-append-drop}
use lib.Seq.{take_at, length-take-le}
use lib.Dec.{ltb}
use borrow.Author.Tests.{ltb-true}
use Rattle.text.specs.Render.{digits}
use Rattle.text.specs.Machine.{digit_of}
use Rattle.text.proofs.Digits.{pick_by, digits_one, digits_more, digit_byte}
use Rattle.cursor.specs.declared.Token.{Token}
use Rattle.cursor.specs.Cursor.{digits_from, number_of, number_at}
use Rattle.cursor.proofs.Counts.{token_start}
use Rattle.reader.specs.Stops.{bytes_between, NumberBelow, StopsAt}
use Rattle.reader.proofs.Fields.{one_more, number_read}

-- What was read ------------------------------------------------------------------------------------------------------------------------------

-- the bytes bs, which stand from `start` on, are the digits of a number below the limit, up to `stop`, and what is behind them
record ReadTo (bs : List ℕ) (limit start stop : ℕ) : Type 0 where
  value : ℕ
  rest : List ℕ
  below : value < limit
  bytes : bs ≡ digits value ++ rest
  place : start + length (digits value) ≡ stop

digits-read : (bs : List ℕ) (start i limit v : ℕ) → v < limit → start + length (digits v) ≡ i → ReadTo (digits v ++ bs) limit start (digits_from bs start i limit v).stop
unfolding digits_from
digits-read [] start i limit v l e = record { value = v; rest = []; below = l; bytes = refl; place = e }
digits-read (b ∷ bs) start i limit v l e =
    let P : Token → Type 0 = λ t. ReadTo (digits v ++ b ∷ bs) limit start t.stop in
    let w = 10 * v + digit_of b in
    let T = digits_from bs start (i + 1) limit w in
    let here : ReadTo (digits v ++ b ∷ bs) limit start i = record { value = v; rest = b ∷ bs; below = l; bytes = refl; place = e } in
    pick_by P (ltb (digit_of b) 10) (λ d.
    pick_by P (ltb 0 v) (λ z.
    pick_by P (ltb w limit) (λ m.
    let pos = ltb-true 0 v z in
    let h = ltb-true (digit_of b) 10 d in
    let q = ap length (digits_more v (digit_of b) pos h) ∙ length-append (digits v) ((48 + digit_of b) ∷ []) in
    let f : start + length (digits w) ≡ i + 1 = omega arith in
    subst (λ (x : List ℕ). ReadTo x limit start T.stop) (one_more v b bs pos h) (digits-read bs start (i + 1) limit w (ltb-true w limit m) f))
    (λ m. here)) (λ z. here)) (λ d. here)

read_of : (bs : List ℕ) (at limit : ℕ) → ((number_of bs at limit).stop ≡ at) ⊎ ReadTo bs limit at (number_of bs at limit).stop
unfolding number_of
read_of [] at limit = inl refl
read_of (b ∷ bs) at limit =
    let P : Token → Type 0 = λ t. (t.stop ≡ at) ⊎ ReadTo (b ∷ bs) limit at t.stop in
    let T = digits_from bs at (at + 1) limit (digit_of b) in
    pick_by P (ltb (digit_of b) 10) (λ d.
    pick_by P (ltb (digit_of b) limit) (λ m.
    let h = ltb-true (digit_of b) 10 d in
    let one = digits_one (digit_of b) h in
    let f : at + length (digits (digit_of b)) ≡ at + 1 = ap (λ (ds : List ℕ). at + length ds) one in
    let g : digits (digit_of b) ++ bs ≡ b ∷ bs = ap (λ (ds : List ℕ). ds ++ bs) one ∙ ap (λ (x : ℕ). x ∷ bs) (sym (digit_byte b h)) in
    inr (subst (λ (x : List ℕ). ReadTo x limit at T.stop) g (digits-read bs at (at + 1) limit (digit_of b) (ltb-true (digit_of b) limit m) f)))
    (λ m. inl refl)) (λ d. inl refl)

-- What would go on ---------------------------------------------------------------------------------------------------------------------------

digits_reach : (bs : List ℕ) (start i limit v : ℕ) → i ≤ (digits_from bs start i limit v).stop
unfolding digits_from
digits_reach [] start i limit v = omega arith
digits_reach (b ∷ bs) start i limit v =
    let P : Token → Type 0 = λ t. i ≤ t.stop in
    let rec = digits_reach bs start (i + 1) limit (10 * v + digit_of b) in
    let here : i ≤ i = omega arith in
    pick_by P (ltb (digit_of b) 10) (λ d. pick_by P (ltb 0 v) (λ z. pick_by P (ltb (10 * v + digit_of b) limit) (λ m. omega arith) (λ m. here)) (λ z. here)) (λ d. here)

-- the digits of a number below the limit are read to their end
reach_of : (bs rest : List ℕ) (at limit u : ℕ) → bs ≡ digits u ++ rest → u < limit → at + length (digits u) ≤ (number_of bs at limit).stop
reach_of bs rest at limit u e l =
    let T = ap (λ (z : List ℕ). number_of z at limit) e ∙ number_read at limit u rest l in
    let q = ap (λ (t : Token). t.stop) T in
    let r = digits_reach rest at (at + length (digits u)) limit u in
    omega arith

-- Both ---------------------------------------------------------------------------------------------------------------------------------------

module _ (s : List ℕ) (at limit stop : ℕ) (reads : (stop ≡ at) ⊎ ReadTo (drop at s) limit at stop) where
  read_behind : at ≤ stop
  read_behind = ⊎_elim (λ e. omega arith) (λ r. let p = r.place in omega arith) reads

  -- what was read is not longer than what stands there
  read_short : stop - at ≤ length (drop at s)
  read_short =
      ⊎_elim (λ e. omega arith)
      (λ r. let p = r.place in let l = ap length r.bytes ∙ length-append (digits r.value) r.rest in omega arith) reads

  read_bytes : (stop ≡ at) ⊎ NumberBelow limit (bytes_between s at stop)
  read_bytes =
      ⊎_elim (λ e. inl e)
      (λ r.
      let p = r.place in
      let k : length (digits r.value) ≡ stop - at = omega arith in
      let q = ap (take (stop - at)) r.bytes ∙ take_at (digits r.value) r.rest (stop - at) k in
      inr (record { value = r.value; below = r.below; bytes_are = q })) reads

  none_goes_on : ((rest : List ℕ) (u : ℕ) → drop at s ≡ digits u ++ rest → u < limit → at + length (digits u) ≤ stop)
      → stop < length s → NumberBelow limit (bytes_between s at (suc stop)) → ⊥
  none_goes_on reach h b =
      let k = suc stop - at in
      let d = length-drop at s in
      let f = read_behind in
      let whole : drop at s ≡ digits b.value ++ drop k (drop at s) =
      sym (take-append-drop k (drop at s)) ∙ ap (λ (x : List ℕ). x ++ drop k (drop at s)) b.bytes_are in
      let l = sym (ap length b.bytes_are) ∙ length-take-le k (drop at s) (omega arith) in
      let r = reach (drop k (drop at s)) b.value whole b.below in
      omega arith

  stops : ((rest : List ℕ) (u : ℕ) → drop at s ≡ digits u ++ rest → u < limit → at + length (digits u) ≤ stop) → StopsAt s limit at stop
  stops reach =
      let d = length-drop at s in
      let f = read_behind in
      let g = read_short in
      record { behind = f; inside = λ h. omega arith; outside = λ h. omega arith; read = read_bytes; no_more = none_goes_on reach }

stops_from : (s : List ℕ) (at limit : ℕ) → StopsAt s limit at (number_at s at limit).stop
unfolding number_at
stops_from s at limit =
    stops s at limit (number_of (drop at s) at limit).stop (read_of (drop at s) at limit) (λ rest u e l. reach_of (drop at s) rest at limit u e l)

-- of every text, place and limit; the token starts at the place (`token_start`)
pub token_stop : (s : List ℕ) (at limit : ℕ) → StopsAt s limit (number_at s at limit).start (number_at s at limit).stop
token_stop s at limit = subst (λ (k : ℕ). StopsAt s limit k (number_at s at limit).stop) (sym (token_start s at limit)) (stops_from s at limit)
