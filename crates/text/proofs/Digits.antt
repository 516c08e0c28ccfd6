-- The laws of decimal digits by which everything else goes: a number below ten is one digit, `digits (10 v + d)` is `digits v` and one digit more, and
-- every number is made so. Assumes nothing.
use Prim.Native.Nat.{ℕ, zero, suc, ◌+◌, ◌*◌, ◌-◌, ◌/◌, ◌%◌, ◌≤◌, ◌<◌}
use mathlib.Core.Path.{◌≡◌, refl, sym, ◌∙◌, ap, ap₂, subst}
use mathlib.Core.List.{List, [], ◌∷◌, ◌++◌}
use mathlib.Core.Bool.{Bool, true, false}
use native.Mathlib.Omega.{arith}
use lib.Dec.{ltb}
use borrow.Author.Tests.{lt-ltb, le-ltb, ltb-true, ltb-false}
use Rattle.weights.specs.Choice.{pick}
use Rattle.text.specs.Render.{digits_on, digits}
use Rattle.text.specs.Machine.{digit_of}

-- a test goes one way or the other
pub pick_by : {A : Type 0} (P : A → Type 0) (t : Bool) {a b : A} → (t ≡ true → P a) → (t ≡ false → P b) → P (pick t a b)
pick_by P true f g = f refl
pick_by P false f g = g refl

small : (k n : ℕ) → n < 10 → digits_on k n ≡ (48 + n) ∷ []
unfolding digits_on
small zero n h = refl
small (suc k) n h = rw (lt-ltb n 10 h)

more : (k n : ℕ) → 10 ≤ n → digits_on (suc k) n ≡ digits_on k (n / 10) ++ (48 + n % 10) ∷ []
unfolding digits_on
more k n h = rw (le-ltb n 10 h)

-- a greater first argument than needed changes nothing
enough : (k j n : ℕ) → n ≤ k → n ≤ j → digits_on k n ≡ digits_on j n
enough zero j n h g = small zero n (omega arith) ∙ sym (small j n (omega arith))
enough (suc k) zero n h g = small (suc k) n (omega arith) ∙ sym (small zero n (omega arith))
enough (suc k) (suc j) n h g = go (ltb n 10) refl (λ l. enough k j (n / 10) (omega arith) (omega arith))
  where
    go : (t : Bool) → ltb n 10 ≡ t → (10 ≤ n → digits_on k (n / 10) ≡ digits_on j (n / 10)) → digits_on (suc k) n ≡ digits_on (suc j) n
    go true e rec = let l = ltb-true n 10 e in small (suc k) n l ∙ sym (small (suc j) n l)
    go false e rec = let l = ltb-false n 10 e in more k n l ∙ ap (λ (ds : List ℕ). ds ++ (48 + n % 10) ∷ []) (rec l) ∙ sym (more j n l)

pub digits_one : (d : ℕ) → d < 10 → digits d ≡ (48 + d) ∷ []
unfolding digits
digits_one d h = small d d h

module _ (v d : ℕ) (pos : 0 < v) (h : d < 10) where
  tenth : (10 * v + d) / 10 ≡ v
  tenth = omega arith

  last : (10 * v + d) % 10 ≡ d
  last = omega arith

  pub digits_more : digits (10 * v + d) ≡ digits v ++ (48 + d) ∷ []
  unfolding digits
  digits_more =
      enough (10 * v + d) (suc (10 * v + d)) (10 * v + d) (omega arith) (omega arith)
      ∙ more (10 * v + d) (10 * v + d) (omega arith)
      ∙ ap₂ (λ (a b : ℕ). digits_on (10 * v + d) a ++ (48 + b) ∷ []) tenth last
      ∙ ap (λ (ds : List ℕ). ds ++ (48 + d) ∷ []) (enough (10 * v + d) v v (omega arith) (omega arith))

-- every number is a digit, or ten times a lesser one and a digit
module _ (P : ℕ → Type 0) (base : (d : ℕ) → d < 10 → P d) (next : (v d : ℕ) → 0 < v → d < 10 → P v → P (10 * v + d)) where
  upto : (k n : ℕ) → n ≤ k → P n
  upto zero n h = base n (omega arith)
  upto (suc k) n h = go (ltb n 10) refl (λ l. upto k (n / 10) (omega arith))
    where
      go : (t : Bool) → ltb n 10 ≡ t → (10 ≤ n → P (n / 10)) → P n
      go true e rec = base n (ltb-true n 10 e)
      go false e rec =
          let l = ltb-false n 10 e in
          let q : 10 * (n / 10) + n % 10 ≡ n = omega arith in
          subst P q (next (n / 10) (n % 10) (omega arith) (omega arith) (rec l))

  pub by_digits : (n : ℕ) → P n
  by_digits n = upto n n (omega arith)

-- the digit that a byte is
pub digit_byte : (b : ℕ) → digit_of b < 10 → b ≡ 48 + digit_of b
unfolding digit_of
digit_byte b =
    pick_by (λ (d : ℕ). d < 10 → b ≡ 48 + d) (ltb b 48) (λ e h. absurd (ten h)) (λ e.
    pick_by (λ (d : ℕ). d < 10 → b ≡ 48 + d) (ltb 57 b) (λ f h. absurd (ten h)) (λ f h.
    let l = ltb-false b 48 e in omega arith))
  where
    ten : 10 < 10 → ⊥
    ten h = omega arith

pub byte_digit : (d : ℕ) → d < 10 → digit_of (48 + d) ≡ d
unfolding digit_of
byte_digit d h =
    let e = le-ltb (48 + d) 48 (omega arith) in
    let f = le-ltb 57 (48 + d) (omega arith) in
    let g : 48 + d - 48 ≡ d = omega arith in
    rw (e, f, g)
