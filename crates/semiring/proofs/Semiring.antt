-- Semirings (document 000, Definition 1), their natural order, sums of whole families (Definition 3), and the tropical semiring over ℕ (document 000, Example 6).
-- Assumes nothing.
use mathlib.Core.Path.{◌≡◌, refl, sym, ◌∙◌, ap, subst}
use mathlib.Core.Logic.{◌↔◌}
use mathlib.Core.List.{List, [], ◌∷◌, ◌++◌}
use Prim.Native.Nat.{ℕ, zero, suc, ◌+◌}
use native.Mathlib.Omega.{arith}
use Rattle.semiring.specs.Semiring.{Operations, Semiring, Below, Sum, product, partial, Extended, finite, infinite, least, extend, tropical}

-- a sum is unique
pub sum_unique : {S : Operations} (L : Semiring S) {I : Type 0} (f : I → S.Carrier) (x y : S.Carrier) → Sum S f x → Sum S f y → x ≡ y
sum_unique L f x y a b = sym (b.greatest x a.lower) ∙ L.plus_comm x y ∙ a.greatest y b.lower

-- y is below every member of f
abbrev Bounds : (S : Operations) {I : Type 0} → (I → S.Carrier) → S.Carrier → Type 0
Bounds S {I} f y = (i : I) → Below S y (f i)

-- families with the same bounds have the same sum
sum_bounds : (S : Operations) {I J : Type 0} (f : I → S.Carrier) (g : J → S.Carrier)
    → ((y : S.Carrier) → Bounds S f y ↔ Bounds S g y) → (x : S.Carrier) → Sum S f x → Sum S g x
sum_bounds S f g same x s = record { lower = (same x).0 s.lower; greatest = λ y h. s.greatest y ((same y).1 h) }

-- families of the same members have the same sum
pub sum_same : (S : Operations) {I J : Type 0} (f : I → S.Carrier) (g : J → S.Carrier) → ((i : I) → (j : J) × (f i ≡ g j)) → ((j : J) → (i : I) × (f i ≡ g j))
    → (x : S.Carrier) → Sum S f x → Sum S g x
sum_same S f g to back =
    sum_bounds S f g (λ y. (λ h j. subst (Below S y) (back j).1 (h (back j).0), λ h i. subst (Below S y) (sym (to i).1) (h (to i).0)))

-- laws of the natural order
module _ {S : Operations} (L : Semiring S) where
  pub below_refl : (a : S.Carrier) → Below S a a
  below_refl a = rw (← L.times-one a, ← L.distributes a S.one S.one, L.closed S.one)

  pub below_trans : (a b c : S.Carrier) → Below S a b → Below S b c → Below S a c
  below_trans a b c h k = ap (λ x. S.plus x c) (sym h) ∙ L.plus_assoc a b c ∙ ap (S.plus a) k ∙ h

  pub plus_right : (a b : S.Carrier) → Below S (S.plus a b) b
  plus_right a b = L.plus_assoc a b b ∙ ap (S.plus a) (below_refl b)

  pub below_plus : (y a b : S.Carrier) → Below S y a → Below S y b → Below S y (S.plus a b)
  below_plus y a b h k = sym (L.plus_assoc y a b) ∙ ap (λ c. S.plus c b) h ∙ k

  module _ (a : ℕ → S.Carrier) where
    partial_member : (n : ℕ) → Below S (partial S a n) (a n)
    unfolding partial
    partial_member zero = below_refl (a zero)
    partial_member (suc n) = plus_right (partial S a n) (a (suc n))

    bounds_members : (y : S.Carrier) → Bounds S (partial S a) y → Bounds S a y
    bounds_members y h n = below_trans y (partial S a n) (a n) (h n) (partial_member n)

    bounds_partial : (y : S.Carrier) → Bounds S a y → Bounds S (partial S a) y
    unfolding partial
    bounds_partial y h zero = h zero
    bounds_partial y h (suc n) = below_plus y (partial S a n) (a (suc n)) (bounds_partial y h n) (h (suc n))

    pub sum-partial : (x : S.Carrier) → Sum S (partial S a) x ↔ Sum S a x
    sum-partial x = (
      sum_bounds S (partial S a) a (λ y. (bounds_members y, bounds_partial y)) x,
      sum_bounds S a (partial S a) (λ y. (bounds_partial y, bounds_members y)) x,
    )

  pub product-append : (xs ys : List S.Carrier) → product S (xs ++ ys) ≡ S.times (product S xs) (product S ys)
  unfolding product
  product-append [] ys = sym (L.times_comm S.one (product S ys) ∙ L.times-one (product S ys))
  product-append (x ∷ xs) ys = ap (S.times x) (product-append xs ys) ∙ sym (L.times_assoc x (product S xs) (product S ys))

-- The tropical semiring ---------------------------------------------------------------------------------------------------------------------------

least_assoc : (a b c : Extended) → least (least a b) c ≡ least a (least b c)
least_assoc (finite a) (finite b) (finite c) = ap finite (omega arith)
least_assoc (finite a) (finite b) infinite = refl
least_assoc (finite a) infinite c = refl
least_assoc infinite b c = refl

least_comm : (a b : Extended) → least a b ≡ least b a
least_comm (finite a) (finite b) = ap finite (omega arith)
least_comm (finite a) infinite = refl
least_comm infinite (finite b) = refl
least_comm infinite infinite = refl

least-infinite : (a : Extended) → least a infinite ≡ a
least-infinite (finite a) = refl
least-infinite infinite = refl

least-closed : (a : Extended) → least (finite 0) a ≡ finite 0
least-closed (finite a) = ap finite (omega arith)
least-closed infinite = refl

plus_infinite : (a : Extended) → extend ◌+◌ a infinite ≡ infinite
plus_infinite (finite a) = refl
plus_infinite infinite = refl

plus_assoc : (a b c : Extended) → extend ◌+◌ (extend ◌+◌ a b) c ≡ extend ◌+◌ a (extend ◌+◌ b c)
plus_assoc (finite a) (finite b) (finite c) = ap finite (omega arith)
plus_assoc (finite a) (finite b) infinite = refl
plus_assoc (finite a) infinite c = refl
plus_assoc infinite b c = refl

plus_comm : (a b : Extended) → extend ◌+◌ a b ≡ extend ◌+◌ b a
plus_comm (finite a) (finite b) = ap finite (omega arith)
plus_comm (finite a) infinite = refl
plus_comm infinite (finite b) = refl
plus_comm infinite infinite = refl

plus_nought : (a : Extended) → extend ◌+◌ a (finite 0) ≡ a
plus_nought (finite a) = ap finite (omega arith)
plus_nought infinite = refl

plus_least : (a b c : Extended) → extend ◌+◌ a (least b c) ≡ least (extend ◌+◌ a b) (extend ◌+◌ a c)
plus_least (finite a) (finite b) (finite c) = ap finite (omega arith)
plus_least (finite a) (finite b) infinite = refl
plus_least (finite a) infinite c = refl
plus_least infinite b c = refl

pub tropical_semiring : Semiring tropical
tropical_semiring = record {
  plus_assoc = least_assoc;
  plus_comm = least_comm;
  plus_nought = least-infinite;
  times_assoc = plus_assoc;
  times_comm = plus_comm;
  times-one = plus_nought;
  distributes = plus_least;
  annihilates = plus_infinite;
  closed = least-closed;
}
