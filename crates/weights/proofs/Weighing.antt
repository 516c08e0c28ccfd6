-- What the laws of a measure give for the weight of a hyperedge, `weigh`: it is monotone in the own weight and in each weight of the tail, stays in range,
-- and is no better than any of the weights of the tail. In grade it is the least of them all. Assumes nothing.
use mathlib.Core.Path.{◌≡◌, refl, ◌∙◌, ap}
use mathlib.Core.List.{List, [], ◌∷◌, Memᴰ}
use Prim.Native.Nat.{ℕ, ◌≤◌, min}
use native.Mathlib.Omega.{arith}
use Rattle.weights.specs.Figures.{greatest}
use Rattle.weights.specs.Measures.{Algebra, grade, fold, weigh}
use Rattle.weights.specs.Laws.{NoWorse, InRange, Lawful}

-- each weight of one list is no worse than the other's
pub data Pointwise (A : Algebra) : List ℕ → List ℕ → Type 0 where
  none : Pointwise A [] []
  more : {x y : ℕ} {xs ys : List ℕ} → NoWorse A.leq x y → Pointwise A xs ys → Pointwise A (x ∷ xs) (y ∷ ys)

module _ {A : Algebra} (L : Lawful A) where
  -- equal weights are no worse than one another
  pub no_worse_eq : {a b : ℕ} → a ≡ b → NoWorse A.leq a b
  no_worse_eq {a} {b} e = rw e L.ordered.reflexive

  fold_mono : {a b : ℕ} {xs ys : List ℕ} → NoWorse A.leq a b → Pointwise A xs ys → NoWorse A.leq (fold A.join a xs) (fold A.join b ys)
  unfolding fold
  fold_mono o Pointwise.none = o
  fold_mono {a = a} {b = b} o (more {x = x} {y = y} {xs = xs} {ys = ys} p ps) = fold_mono {a = A.join a x} (L.join_mono o p) ps

  -- what is no worse than where the joining starts is no worse than the whole
  fold_keeps : {x a : ℕ} (xs : List ℕ) → InRange A x → NoWorse A.leq x a → NoWorse A.leq x (fold A.join a xs)
  unfolding fold
  fold_keeps [] h p = p
  fold_keeps {x = x} {a = a} (y ∷ xs) h p = fold_keeps {a = A.join a y} xs h (L.join_left y h p)

  fold_superior : {x : ℕ} (a : ℕ) {xs : List ℕ} → Memᴰ x xs → InRange A x → NoWorse A.leq x (fold A.join a xs)
  unfolding fold
  fold_superior a (Memᴰ.head {x = y} {xs = ys} e) h = rw e (fold_keeps ys (rw e at h) (L.join_right a (rw e at h)))
  fold_superior a (Memᴰ.tail {x = y} i) h = fold_superior (A.join a y) i h

  pub weigh_mono : {own own' : ℕ} {xs ys : List ℕ} → NoWorse A.leq own own' → Pointwise A xs ys → NoWorse A.leq (weigh A own xs) (weigh A own' ys)
  unfolding weigh
  weigh_mono o ps = L.finish_mono o (fold_mono L.ordered.reflexive ps)

  pub weigh_within : (own : ℕ) (xs : List ℕ) → InRange A (weigh A own xs)
  unfolding weigh
  weigh_within own xs = L.finish_within own xs

  -- superiority (document 000, before Lemma 2)
  pub superior : (own : ℕ) {x : ℕ} {xs : List ℕ} → Memᴰ x xs → InRange A x → NoWorse A.leq x (weigh A own xs)
  unfolding weigh
  superior own i h = L.finish_superior own h (fold_superior A.unit i h)

-- the least of a number and of a list is the least of the list joined from the lesser one on
pub fold_least : (a b : ℕ) (ws : List ℕ) → min a (fold min b ws) ≡ fold min (min a b) ws
unfolding fold
fold_least a b [] = refl
fold_least a b (w ∷ ws) = fold_least a (min b w) ws ∙ ap (λ (x : ℕ). fold min x ws) (let q : min a (min b w) ≡ min (min a b) w = omega arith in q)

-- in grade the start of the joining is not seen: of an own figure the weight is the least of it and of the tail's, so without a tail it is the own figure
pub weigh-grade : (own : ℕ) (ws : List ℕ) → own ≤ greatest → weigh grade own ws ≡ fold min own ws
unfolding weigh
weigh-grade own ws h = fold_least own greatest ws ∙ ap (λ (x : ℕ). fold min x ws) (let q : min own greatest ≡ own = omega arith in q)
