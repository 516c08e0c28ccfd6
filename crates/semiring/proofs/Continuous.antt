-- Document 000's Definition 3: the sum of a family is the infimum of the partial sums of any sequence of its members; and sum and product pass through the sums of
-- families, so through the infima of chains. Assumes nothing.
use mathlib.Core.Path.{◌≡◌, refl, sym, ◌∙◌, ap}
use mathlib.Core.Logic.{◌↔◌}
use Prim.Native.Nat.{ℕ, ◌+◌, ◌-◌, ◌≤◌, min}
use native.Mathlib.Omega.{arith}
use Rattle.semiring.specs.Semiring.{Operations, Semiring, Below, Sum, partial, Extended, finite, infinite, least, extend, tropical}
use Rattle.semiring.proofs.Semiring.{sum_same, sum-partial, below_trans, plus_right, below_plus}

-- the sequence a has the members of the family f: then f's sum is the infimum of a's partial sums
pub sum_sequence : {S : Operations} (L : Semiring S) {I : Type 0} (f : I → S.Carrier) (a : ℕ → S.Carrier) → ((i : I) → (n : ℕ) × (f i ≡ a n)) → ((n : ℕ) → (i : I) × (f i ≡ a n))
    → (x : S.Carrier) → Sum S f x ↔ Sum S (partial S a) x
sum_sequence {S} L f a to back x = (
  λ s. (sum-partial L a x).1 (sum_same S f a to back x s),
  λ s. sum_same S a f (λ n. ((back n).0, sym (back n).1)) (λ i. ((to i).0, sym (to i).1)) x ((sum-partial L a x).0 s),
)

-- addition passes through a sum that is not empty
module _ {S : Operations} (L : Semiring S) {I : Type 0} (f : I → S.Carrier) (a x : S.Carrier) (s : Sum S f x) where
  plus_left : (b : S.Carrier) → Below S (S.plus a b) a
  plus_left b = ap (λ (c : S.Carrier). S.plus c a) (L.plus_comm a b) ∙ plus_right L b a ∙ L.plus_comm b a

  pub plus_sum : I → Sum S (λ j. S.plus a (f j)) (S.plus a x)
  plus_sum i = record {
    lower = λ j. below_plus L (S.plus a x) a (f j) (plus_left x) (below_trans L (S.plus a x) x (f j) (plus_right L a x) (s.lower j));
    greatest = λ y h.
        let below_a : Below S y a = below_trans L y (S.plus a (f i)) a (h i) (plus_left (f i)) in
        below_plus L y a x below_a (s.greatest y (λ j. below_trans L y (S.plus a (f j)) (f j) (h j) (plus_right L a (f j))));
  }

least-finite : {a b : ℕ} → a ≤ b → finite (min a b) ≡ finite a
least-finite h = ap finite (omega arith)

no_finite : {k : ℕ} → finite k ≡ infinite → ⊥
no_finite p = let z : ◌≡◌ {A = ℕ} 0 1 = cc in omega arith

finite-least : {a b : ℕ} → finite (min a b) ≡ finite a → a ≤ b
finite-least {a} {b} e = let q : min a b ≡ a = cc in omega arith

module _ {I : Type 0} (g : I → Extended) where
  times_low : (a x b : Extended) → least x b ≡ x → least (extend ◌+◌ a x) (extend ◌+◌ a b) ≡ extend ◌+◌ a x
  times_low infinite x b e = refl
  times_low (finite a) (finite x) infinite e = refl
  times_low (finite a) infinite infinite e = refl
  times_low (finite a) infinite (finite b) e = ap (extend ◌+◌ (finite a)) e
  times_low (finite a) (finite x) (finite b) e = least-finite (omega (arith, finite-least e))

  -- what each product is above, each member is above once a is taken off
  rest_low : (a y : ℕ) (b : Extended) → least (finite y) (extend ◌+◌ (finite a) b) ≡ finite y → least (finite (y - a)) b ≡ finite (y - a)
  rest_low a y infinite e = refl
  rest_low a y (finite b) e = least-finite (omega (arith, finite-least e))

  all-infinite : (a : ℕ) (b : Extended) → least infinite (extend ◌+◌ (finite a) b) ≡ infinite → least infinite b ≡ infinite
  all-infinite a infinite e = refl
  all-infinite a (finite b) e = absurd (no_finite e)

  times_high : (a x y : Extended) → Sum tropical g x → ((i : I) → least y (extend ◌+◌ a (g i)) ≡ y) → least y (extend ◌+◌ a x) ≡ y
  times_high infinite x (finite y) s h = refl
  times_high infinite x infinite s h = refl
  times_high (finite a) infinite (finite y) s h = refl
  times_high (finite a) infinite infinite s h = refl
  times_high (finite a) (finite x) (finite y) s h =
      let low = finite-least (s.greatest (finite (y - a)) (λ i. rest_low a y (g i) (h i))) in
      least-finite (omega (arith, low))
  times_high (finite a) (finite x) infinite s h = absurd (no_finite (s.greatest infinite (λ i. all-infinite a (g i) (h i))))

  -- multiplication passes through every sum, in the tropical semiring; Chain has it of the others
  pub tropical_times_sum : (a x : Extended) → Sum tropical g x → Sum tropical (λ i. extend ◌+◌ a (g i)) (extend ◌+◌ a x)
  tropical_times_sum a x s = record { lower = λ i. times_low a x (g i) (s.lower i); greatest = λ y h. times_high a x y s h }
