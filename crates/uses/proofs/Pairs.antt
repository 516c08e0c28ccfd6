-- The laws of a column of pairs: its length, its places, two equal columns, and a pair that is stored anew. Assumes nothing.
use mathlib.Core.Path.{◌≡◌, refl, sym, ◌∙◌, ap}
use mathlib.Core.List.{List, [], ◌∷◌, ◌++◌}
use mathlib.Core.Logic.{◌⊎◌, inl, inr, ⊎_elim}
use mathlib.Core.Bool.{Bool, true, false}
use Prim.Native.Nat.{ℕ, zero, suc, ◌+◌, ◌*◌, ◌<◌}
use native.Mathlib.Omega.{arith}
use lib.ListN.{length, get_or, set, length-append, length-set, get_or-append}
use lib.Seq.{ext_get_or, get_or_at, get_or-append-add, get_or-set_same, get_or-set_other}
use lib.Dec.{eqb}
use borrow.Author.Tests.{eqb-true, eqb-false}
use Rattle.uses.specs.Uses.{pairs}

-- a number is another or it is not
pub same_or_not : (v w : ℕ) → (v ≡ w) ⊎ (v ≡ w → ⊥)
same_or_not v w = go (eqb v w) refl
  where
    go : (b : Bool) → eqb v w ≡ b → (v ≡ w) ⊎ (v ≡ w → ⊥)
    go true e = inl (eqb-true v w e)
    go false e = inr (eqb-false v w e)

-- a number below one more is the last, or below
pub last_or_below : {v n : ℕ} → v < suc n → (v ≡ n) ⊎ (v < n)
last_or_below {v} {n} h = ⊎_elim (λ e. inl e) (λ d. inr (omega arith)) (same_or_not v n)

-- a place is the first or the second of a pair
parity : (i : ℕ) → ((v : ℕ) × (i ≡ 2 * v)) ⊎ ((v : ℕ) × (i ≡ 2 * v + 1))
parity zero = inl (0, refl)
parity (suc i) = ⊎_elim (λ p. inr (p.0, omega (arith, p.1))) (λ p. inl (suc p.0, omega (arith, p.1))) (parity i)

pub pairs_ext : (n : ℕ) (xs ys : List ℕ) → length xs ≡ 2 * n → length ys ≡ 2 * n → ((v : ℕ) → v < n → get_or xs (2 * v) 0 ≡ get_or ys (2 * v) 0)
    → ((v : ℕ) → v < n → get_or xs (2 * v + 1) 0 ≡ get_or ys (2 * v + 1) 0) → xs ≡ ys
pairs_ext n xs ys p q f g =
    ext_get_or 0 xs ys (p ∙ sym q)
    (λ i h. ⊎_elim
    (λ z. rw z.1 (f z.0 (omega (arith, z.1))))
    (λ z. rw z.1 (g z.0 (omega (arith, z.1))))
    (parity i))

module _ (f g : ℕ → ℕ) where
  pub length_pairs : (n : ℕ) → length (pairs f g n) ≡ 2 * n
  unfolding pairs
  length_pairs zero = refl
  length_pairs (suc n) = length-append (pairs f g n) (f n ∷ g n ∷ []) ∙ (let l = length_pairs n in omega arith)

  pub pairs_first : (n v : ℕ) → v < n → get_or (pairs f g n) (2 * v) 0 ≡ f v
  unfolding pairs
  pairs_first zero v h = absurd (omega arith)
  pairs_first (suc n) v h = ⊎_elim
      (λ e. rw e (get_or_at (pairs f g n) (f n) (g n ∷ []) 0 (2 * n) (length_pairs n)))
      (λ l. get_or-append (pairs f g n) (f n ∷ g n ∷ []) 0 (2 * v) (let k = length_pairs n in omega arith) ∙ pairs_first n v (omega arith))
      (last_or_below h)

  pub pairs_second : (n v : ℕ) → v < n → get_or (pairs f g n) (2 * v + 1) 0 ≡ g v
  unfolding pairs
  pairs_second zero v h = absurd (omega arith)
  pairs_second (suc n) v h = ⊎_elim
      (λ e. rw e (ap (λ (z : ℕ). get_or (pairs f g n ++ f n ∷ g n ∷ []) (z + 1) 0) (sym (length_pairs n)) ∙ get_or-append-add (pairs f g n) (f n ∷ g n ∷ []) 1 0))
      (λ l. get_or-append (pairs f g n) (f n ∷ g n ∷ []) 0 (2 * v + 1) (let k = length_pairs n in omega arith) ∙ pairs_second n v (omega arith))
      (last_or_below h)

-- equal pairs make equal columns
pub pairs_same : (f g f' g' : ℕ → ℕ) (n : ℕ) → ((v : ℕ) → v < n → f v ≡ f' v) → ((v : ℕ) → v < n → g v ≡ g' v) → pairs f g n ≡ pairs f' g' n
pairs_same f g f' g' n p q =
    pairs_ext n (pairs f g n) (pairs f' g' n) (length_pairs f g n) (length_pairs f' g' n)
    (λ v h. pairs_first f g n v h ∙ p v h ∙ sym (pairs_first f' g' n v h))
    (λ v h. pairs_second f g n v h ∙ q v h ∙ sym (pairs_second f' g' n v h))

-- a column is the pairs that it holds
pub pairs_of : (n : ℕ) (xs : List ℕ) → length xs ≡ 2 * n → xs ≡ pairs (λ v. get_or xs (2 * v) 0) (λ v. get_or xs (2 * v + 1) 0) n
pairs_of n xs p =
    pairs_ext n xs _ p (length_pairs _ _ n) (λ v h. sym (pairs_first (λ v. get_or xs (2 * v) 0) (λ v. get_or xs (2 * v + 1) 0) n v h))
    (λ v h. sym (pairs_second (λ v. get_or xs (2 * v) 0) (λ v. get_or xs (2 * v + 1) 0) n v h))

-- the pair of w is stored anew, or its second place alone
module _ (f g : ℕ → ℕ) (n w : ℕ) (h : w < n) (f' g' : ℕ → ℕ) (other : (v : ℕ) → (v ≡ w → ⊥) → g v ≡ g' v) where
  pub second_set : ((v : ℕ) → f v ≡ f' v) → (b : ℕ) → b ≡ g' w → set (pairs f g n) (2 * w + 1) b ≡ pairs f' g' n
  second_set same b p =
      let l = length_pairs f g n in
      pairs_ext n _ _ (length-set (pairs f g n) (2 * w + 1) b ∙ l) (length_pairs f' g' n)
      (λ v k. get_or-set_other (pairs f g n) (2 * w + 1) (2 * v) b 0 (λ e. omega arith) ∙ pairs_first f g n v k ∙ same v ∙ sym (pairs_first f' g' n v k))
      (λ v k. ⊎_elim
      (λ e. rw e (get_or-set_same (pairs f g n) (2 * w + 1) b 0 (omega arith) ∙ p ∙ sym (pairs_second f' g' n w h)))
      (λ d. get_or-set_other (pairs f g n) (2 * w + 1) (2 * v + 1) b 0 (λ e. d (omega arith)) ∙ pairs_second f g n v k ∙ other v d ∙ sym (pairs_second f' g' n v k))
      (same_or_not v w))

  pub pair_set : ((v : ℕ) → (v ≡ w → ⊥) → f v ≡ f' v) → (a b : ℕ) → a ≡ f' w → b ≡ g' w → set (set (pairs f g n) (2 * w) a) (2 * w + 1) b ≡ pairs f' g' n
  pair_set others a b q p =
      let l = length_pairs f g n in
      let s = length-set (pairs f g n) (2 * w) a in
      pairs_ext n _ _ (length-set (set (pairs f g n) (2 * w) a) (2 * w + 1) b ∙ s ∙ l) (length_pairs f' g' n)
      (λ v k. get_or-set_other (set (pairs f g n) (2 * w) a) (2 * w + 1) (2 * v) b 0 (λ e. omega arith) ∙ ⊎_elim
      (λ e. rw e (get_or-set_same (pairs f g n) (2 * w) a 0 (omega arith) ∙ q ∙ sym (pairs_first f' g' n w h)))
      (λ d. get_or-set_other (pairs f g n) (2 * w) (2 * v) a 0 (λ e. d (omega arith)) ∙ pairs_first f g n v k ∙ others v d ∙ sym (pairs_first f' g' n v k))
      (same_or_not v w))
      (λ v k. ⊎_elim
      (λ e. rw e (get_or-set_same (set (pairs f g n) (2 * w) a) (2 * w + 1) b 0 (omega arith) ∙ p ∙ sym (pairs_second f' g' n w h)))
      (λ d. get_or-set_other (set (pairs f g n) (2 * w) a) (2 * w + 1) (2 * v + 1) b 0 (λ e. d (omega arith))
      ∙ get_or-set_other (pairs f g n) (2 * w) (2 * v + 1) a 0 (λ e. omega arith) ∙ pairs_second f g n v k ∙ other v d
      ∙ sym (pairs_second f' g' n v k))
      (same_or_not v w))
