-- Sums over the results: one result after another, in any order, of equal results, and how large they can become. Assumes nothing.
use Prim.Native.Nat.{ℕ, zero, suc, ◌+◌, ◌*◌, ◌≤◌, ◌<◌}
use mathlib.Core.Path.{◌≡◌, refl, ◌∙◌, ap, ap₂}
use mathlib.Core.Logic.{∥∥₁_elim}
use mathlib.Core.List.{List, [], ◌∷◌, Perm, Permᴰ}
use native.Mathlib.Nat.{ℕ_set}
use native.Mathlib.Numerals.{add-one}
use native.Mathlib.Omega.{arith}
use lib.ListN.{length, get_or, drop, drop_of_length-le}
use lib.Seq.{drop-cons}
use Rattle.statistics.specs.Samples.{total}

module _ (f : ℕ → ℕ) where
  -- one result more, and none left
  pub total_next : (xs : List ℕ) (i : ℕ) → i < length xs → total f (drop i xs) ≡ f (get_or xs i 0) + total f (drop (i + 1) xs)
  unfolding total
  total_next xs i h = rw (add-one i) (ap (total f) (drop-cons xs i 0 h))

  pub total_end : (xs : List ℕ) (i : ℕ) → length xs ≤ i → total f (drop i xs) ≡ 0
  unfolding total
  total_end xs i h = ap (total f) (drop_of_length-le xs h)

  -- a result's part is at most the whole
  pub total_part : (xs : List ℕ) (i : ℕ) → i < length xs → f (get_or xs i 0) ≤ total f xs
  unfolding total
  total_part [] i h = absurd (omega arith)
  total_part (x ∷ xs) zero h = omega arith
  total_part (x ∷ xs) (suc i) h = omega (arith, total_part xs i (omega arith))

  pub total_at_most : (k : ℕ) (xs : List ℕ) → ((i : ℕ) → i < length xs → f (get_or xs i 0) ≤ k) → total f xs ≤ length xs * k
  unfolding total
  total_at_most k [] g = omega arith
  total_at_most k (x ∷ xs) g = omega (arith, g 0 (omega arith), total_at_most k xs (λ i h. g (suc i) (omega arith)))

  pub total_equal : (x : ℕ) (xs : List ℕ) → ((i : ℕ) → i < length xs → get_or xs i 0 ≡ x) → total f xs ≡ length xs * f x
  unfolding total
  total_equal x [] g = omega arith
  total_equal x (y ∷ ys) g = omega (arith, ap f (g 0 (omega arith)), total_equal x ys (λ i h. g (suc i) (omega arith)))

  -- the order has no effect
  derived : {xs ys : List ℕ} → Permᴰ xs ys → total f xs ≡ total f ys
  unfolding total
  derived Permᴰ.nil = refl
  derived (Permᴰ.cons e d) = ap₂ ◌+◌ (ap f e) (derived d)
  derived (Permᴰ.swap e₁ e₂) = omega (arith, ap f e₁, ap f e₂)
  derived (Permᴰ.trans d₁ d₂) = derived d₁ ∙ derived d₂

  pub total_perm : (xs ys : List ℕ) → Perm xs ys → total f xs ≡ total f ys
  total_perm xs ys p = ∥∥₁_elim p (ℕ_set _ _) derived

pub length-total : (xs : List ℕ) → length xs ≡ total (λ x. 1) xs
unfolding total
length-total [] = refl
length-total (x ∷ xs) = omega (arith, length-total xs)
