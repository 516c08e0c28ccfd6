-- The laws of what stands at a place: a byte that is not 0 stands within the text; a number and an own figure are within their limits, and the place behind
-- them is later and within the text. Assumes nothing.
use Prim.Native.Nat.{ℕ, ◌+◌, ◌*◌, ◌≤◌, ◌<◌, max}
use mathlib.Core.Path.{◌≡◌, refl}
use mathlib.Core.List.{List, [], ◌∷◌}
use mathlib.Core.Bool.{Bool, true, false}
use native.Mathlib.Omega.{arith}
use lib.ListN.{length, get_or, drop, length-drop, get_or-eq_default}
use lib.Dec.{ltb, eqb}
use borrow.Author.Tests.{ltb-true, ltb-false, eqb-true}
use Rattle.weights.specs.declared.Weight.{Weight}
use Rattle.weights.specs.declared.Mark.{Mark}
use Rattle.weights.specs.Figures.{greatest, standing, struck_mark}
use Rattle.text.specs.Machine.{digit_of}
use Rattle.text.proofs.Digits.{pick_by}
use Rattle.cursor.specs.declared.Token.{Token}
use Rattle.cursor.specs.declared.WeightToken.{WeightToken}
use Rattle.cursor.specs.Cursor.{FoundWeight, token, digits_from, number_of, number_at, weight_token, marked_from, weight_at}
use Rattle.std.specs.Prelude.{Option, Some, None}

pub byte_within : (s : List ℕ) (at b : ℕ) → get_or s at 0 ≡ b → 0 < b → at < length s
byte_within s at b e h = go (ltb at (length s)) refl
  where
    go : (t : Bool) → ltb at (length s) ≡ t → at < length s
    go true f = ltb-true at (length s) f
    go false f = let z = get_or-eq_default s 0 (ltb-false at (length s) f) in absurd (omega arith)

-- what a number that was found tells: it is below the limit, and the place where it stopped is after `at` and not after `end`
abbrev CountsOf : (at limit end stop : ℕ) → (Option ℕ) → Type 0
CountsOf at limit end stop (Some v) = (v < limit) × (at < stop) × (stop ≤ end)
CountsOf at limit end stop None = Unit {0}

abbrev Counts : (at limit end : ℕ) → Token → Type 0
Counts at limit end t = CountsOf at limit end t.stop t.found

digits_count : (bs : List ℕ) (at i limit v : ℕ) → at < i → v < limit → Counts at limit (i + length bs) (digits_from bs at i limit v)
unfolding digits_from
digits_count [] at i limit v h l = (l, h, omega arith)
digits_count (b ∷ bs) at i limit v h l =
    let P : Token → Type 0 = Counts at limit (i + length (b ∷ bs)) in
    let e : i + 1 + length bs ≡ i + length (b ∷ bs) = omega arith in
    pick_by P (ltb (digit_of b) 10) (λ d.
    pick_by P (ltb 0 v) (λ z.
    pick_by P (ltb (10 * v + digit_of b) limit)
    (λ m. rw e at (digits_count bs at (i + 1) limit (10 * v + digit_of b) (omega arith) (ltb-true _ _ m)))
    (λ m. tt)) (λ z. tt)) (λ d. (l, h, omega arith))

number_count : (bs : List ℕ) (at limit : ℕ) → Counts at limit (at + length bs) (number_of bs at limit)
unfolding number_of
number_count [] at limit = tt
number_count (b ∷ bs) at limit =
    let P : Token → Type 0 = Counts at limit (at + length (b ∷ bs)) in
    let e : at + 1 + length bs ≡ at + length (b ∷ bs) = omega arith in
    pick_by P (ltb (digit_of b) 10) (λ d.
    pick_by P (ltb (digit_of b) limit)
    (λ m. rw e at (digits_count bs at (at + 1) limit (digit_of b) (omega arith) (ltb-true _ _ m)))
    (λ m. tt)) (λ d. tt)

pub number_counts : (s : List ℕ) (at limit start stop v : ℕ) → number_at s at limit ≡ token start stop (Some v) → (v < limit) × (at < stop) × (stop ≤ length s)
unfolding number_at
number_counts s at limit start stop v e =
    let r : Counts at limit (at + length (drop at s)) (token start stop (Some v)) = rw e at (number_count (drop at s) at limit) in
    let l = length-drop at s in
    (r.0, r.1, omega arith)

-- the same of an own figure, with its mark
abbrev WeightCountsOf : (at end stop : ℕ) → FoundWeight → Type 0
WeightCountsOf at end stop (Some (w, k)) = (w.0 ≤ greatest) × (k.0 ≤ struck_mark) × (at < stop) × (stop ≤ end)
WeightCountsOf at end stop None = Unit {0}

abbrev WeightCounts : (at end : ℕ) → WeightToken → Type 0
WeightCounts at end t = WeightCountsOf at end t.stop t.found

marked_counts : (s : List ℕ) (at from : ℕ) (k : Mark) (start stop : ℕ) (f : (Option ℕ)) → at ≤ from → k.0 ≤ struck_mark → number_at s from (greatest + 1) ≡ token start stop f
    → WeightCounts at (length s) (marked_from at k (token start stop f))
marked_counts s at from k start stop (Some v) h m e = let r = number_counts s from (greatest + 1) start stop v e in (omega arith, m, omega arith, r.2)
marked_counts s at from k start stop None h m e = tt

weight_count : (s : List ℕ) (at : ℕ) → WeightCounts at (length s) (weight_at s at)
unfolding weight_at
weight_count s at =
    let struck = number_at s (at + 1) (greatest + 1) in
    let stands = number_at s at (greatest + 1) in
    pick_by (WeightCounts at (length s)) (eqb (get_or s at 0) 45)
    (λ e. marked_counts s at (at + 1) (record { 0 = struck_mark }) struck.start struck.stop struck.found (omega arith) (omega arith) refl)
    (λ e. marked_counts s at at (record { 0 = standing }) stands.start stands.stop stands.found (omega arith) (omega arith) refl)

pub weight_counts : (s : List ℕ) (at : ℕ) (start stop : ℕ) (w : Weight) (k : Mark) → weight_at s at ≡ weight_token start stop (Some (w, k))
    → (w.0 ≤ greatest) × (k.0 ≤ struck_mark) × (at < stop) × (stop ≤ length s)
weight_counts s at start stop w k e = rw e at (weight_count s at)

-- Where a reading began: at the place that it was asked for ------------------------------------------------------------------------------------

digits_start : (bs : List ℕ) (at i limit v : ℕ) → (digits_from bs at i limit v).start ≡ at
unfolding digits_from
digits_start [] at i limit v = refl
digits_start (b ∷ bs) at i limit v =
    let P : Token → Type 0 = λ t. t.start ≡ at in
    pick_by P (ltb (digit_of b) 10) (λ d.
    pick_by P (ltb 0 v) (λ z.
    pick_by P (ltb (10 * v + digit_of b) limit) (λ m. digits_start bs at (i + 1) limit (10 * v + digit_of b)) (λ m. refl)) (λ z. refl)) (λ d. refl)

number_start : (bs : List ℕ) (at limit : ℕ) → (number_of bs at limit).start ≡ at
unfolding number_of
number_start [] at limit = refl
number_start (b ∷ bs) at limit =
    let P : Token → Type 0 = λ t. t.start ≡ at in
    pick_by P (ltb (digit_of b) 10) (λ d.
    pick_by P (ltb (digit_of b) limit) (λ m. digits_start bs at (at + 1) limit (digit_of b)) (λ m. refl)) (λ d. refl)

pub token_start : (s : List ℕ) (at limit : ℕ) → (number_at s at limit).start ≡ at
unfolding number_at
token_start s at limit = number_start (drop at s) at limit

pub weight_start : (s : List ℕ) (at : ℕ) → (weight_at s at).start ≡ at
unfolding weight_at
weight_start s at = pick_by (λ (t : WeightToken). t.start ≡ at) (eqb (get_or s at 0) 45) (λ e. refl) (λ e. refl)

-- Where a reading stops: not before its start, and not behind the text's end, or at the start if that is behind it --------------------------------

abbrev Stops : (at end : ℕ) → (stop : ℕ) → Type 0
Stops at end stop = (at ≤ stop) × (stop ≤ end)

digits_stop : (bs : List ℕ) (at i limit v : ℕ) → Stops i (i + length bs) (digits_from bs at i limit v).stop
unfolding digits_from
digits_stop [] at i limit v = (omega arith, omega arith)
digits_stop (b ∷ bs) at i limit v =
    let P : Token → Type 0 = λ t. Stops i (i + length (b ∷ bs)) t.stop in
    let here : Stops i (i + length (b ∷ bs)) i = (omega arith, omega arith) in
    let more = digits_stop bs at (i + 1) limit (10 * v + digit_of b) in
    let l = more.0 in
    let h = more.1 in
    pick_by P (ltb (digit_of b) 10) (λ d.
    pick_by P (ltb 0 v) (λ z.
    pick_by P (ltb (10 * v + digit_of b) limit) (λ m. (omega arith, omega arith)) (λ m. here)) (λ z. here)) (λ d. here)

number_stop : (bs : List ℕ) (at limit : ℕ) → Stops at (at + length bs) (number_of bs at limit).stop
unfolding number_of
number_stop [] at limit = (omega arith, omega arith)
number_stop (b ∷ bs) at limit =
    let P : Token → Type 0 = λ t. Stops at (at + length (b ∷ bs)) t.stop in
    let here : Stops at (at + length (b ∷ bs)) at = (omega arith, omega arith) in
    let more = digits_stop bs at (at + 1) limit (digit_of b) in
    let l = more.0 in
    let h = more.1 in
    pick_by P (ltb (digit_of b) 10) (λ d.
    pick_by P (ltb (digit_of b) limit) (λ m. (omega arith, omega arith)) (λ m. here)) (λ d. here)

pub token_within : (s : List ℕ) (at limit : ℕ) → (at ≤ (number_at s at limit).stop) × ((number_at s at limit).stop ≤ max at (length s))
unfolding number_at
token_within s at limit = let r = number_stop (drop at s) at limit in let l = length-drop at s in let h = r.1 in (r.0, omega arith)

pub weight_within : (s : List ℕ) (at : ℕ) → (at ≤ (weight_at s at).stop) × ((weight_at s at).stop ≤ max at (length s))
unfolding weight_at
weight_within s at =
    let P : WeightToken → Type 0 = λ t. (at ≤ t.stop) × (t.stop ≤ max at (length s)) in
    let struck = token_within s (at + 1) (greatest + 1) in
    let a = struck.0 in
    let b = struck.1 in
    pick_by P (eqb (get_or s at 0) 45) (λ e. let h = byte_within s at 45 (eqb-true _ _ e) (omega arith) in (omega arith, omega arith)) (λ e. token_within s at (greatest + 1))
