-- Differences of numbers as integers: what a difference is, and its sum, its product with a number and its order. Assumes nothing.
use mathlib.Core.Path.{◌≡◌, refl, sym, ◌∙◌, ap, subst}
use mathlib.Core.Bool.{Bool, true, false, cond}
use mathlib.Core.Logic.{◌↔◌}
use Prim.Native.Nat.{ℕ, zero, suc, ◌+◌, ◌*◌, ◌-◌, ◌≤◌}
use native.Mathlib.Nat.{add-mul}
use native.Mathlib.Omega.{arith}
use lib.Dec.{T, ltb, leb}
use lib.IntN.{ℤ, pos, negsuc, sub_ℕ, ◌+ℤ◌, ◌*ℤ◌, neg_ℤ}
use lib.Signed.{◌≤ℤ◌, le_z}
use borrow.Author.Tests.{ltb-true, ltb-false, le-leb, leb-true}

-- x is a less b
data Diff (a b : ℕ) : ℤ → Type 0 where
  up : (k : ℕ) → a ≡ b + k → Diff a b (pos k)
  down : (k : ℕ) → b ≡ a + suc k → Diff a b (negsuc k)

-- there is such an integer, and it is the only one
diff : (a b : ℕ) → Diff a b (sub_ℕ a b)
diff a b = go (ltb a b) refl
  where
    go : (t : Bool) → ltb a b ≡ t → Diff a b (cond t (negsuc (b - suc a)) (pos (a - b)))
    go true e = let h = ltb-true a b e in down (b - suc a) (omega arith)
    go false e = let h = ltb-false a b e in up (a - b) (omega arith)

unique : {a b : ℕ} {x y : ℤ} → Diff a b x → Diff a b y → x ≡ y
unique (up k p) (up l q) = ap pos (omega arith)
unique (up k p) (down l q) = absurd (omega arith)
unique (down k p) (up l q) = absurd (omega arith)
unique (down k p) (down l q) = ap negsuc (omega arith)

-- a number that is no less: the difference is what is more
pub sub_more : (a b k : ℕ) → a ≡ b + k → sub_ℕ a b ≡ pos k
sub_more a b k e = unique (diff a b) (up k e)

-- a difference depends on no more than a + d ≡ c + b
same : {a b c d : ℕ} {x : ℤ} → a + d ≡ c + b → Diff a b x → Diff c d x
same e (up k p) = up k (omega arith)
same e (down k p) = down k (omega arith)

sum : {a b c d : ℕ} {x y : ℤ} → Diff a b x → Diff c d y → Diff (a + c) (b + d) (x +ℤ y)
sum (up k p) (up l q) = up (k + l) (omega arith)
sum (up k p) (down l q) = same (omega arith) (diff k (suc l))
sum (down k p) (up l q) = same (omega arith) (diff l (suc k))
sum (down k p) (down l q) = down (suc (k + l)) (omega arith)

pub sub-sum : (a b c d : ℕ) → sub_ℕ a b +ℤ sub_ℕ c d ≡ sub_ℕ (a + c) (b + d)
sub-sum a b c d = unique (sum (diff a b) (diff c d)) (diff (a + c) (b + d))

negated : (n : ℕ) {a b : ℕ} → b ≡ a + n → Diff a b (neg_ℤ (pos n))
negated zero p = up zero (omega arith)
negated (suc n) p = down n p

scale : {a b : ℕ} {x : ℤ} (k : ℕ) → Diff a b x → Diff (a * k) (b * k) (x *ℤ pos k)
scale {a} {b} k (up j p) = up (j * k) (ap (λ (z : ℕ). z * k) p ∙ add-mul b j k)
scale {a} {b} k (down j p) = negated (suc j * k) (ap (λ (z : ℕ). z * k) p ∙ add-mul a (suc j) k)

pub sub_scale : (a b k : ℕ) → sub_ℕ a b *ℤ pos k ≡ sub_ℕ (a * k) (b * k)
sub_scale a b k = unique (scale k (diff a b)) (diff (a * k) (b * k))

-- the order of differences is that of sums
test_of : (a b : ℕ) → a ≤ b → T (leb a b)
test_of a b h = rw (le-leb a b h) tt

of_test : (a b : ℕ) → T (leb a b) → a ≤ b
of_test a b t = go (leb a b) refl t
  where
    go : (z : Bool) → leb a b ≡ z → T z → a ≤ b
    go true e u = leb-true a b e
    go false e u = absurd u

order : {a b c d : ℕ} {x y : ℤ} → Diff a b x → Diff c d y → a + d ≤ c + b → T (le_z x y)
order (up k p) (up l q) h = test_of k l (omega arith)
order (up k p) (down l q) h = absurd (omega arith)
order (down k p) (up l q) h = tt
order (down k p) (down l q) h = test_of l k (omega arith)

back : {a b c d : ℕ} {x y : ℤ} → Diff a b x → Diff c d y → T (le_z x y) → a + d ≤ c + b
back (up k p) (up l q) t = omega (arith, of_test k l t)
back (up k p) (down l q) t = absurd t
back (down k p) (up l q) t = omega arith
back (down k p) (down l q) t = omega (arith, of_test l k t)

pub sub_order : (a b c d : ℕ) → (sub_ℕ a b ≤ℤ sub_ℕ c d) ↔ (a + d ≤ c + b)
sub_order a b c d = (λ h. back (diff a b) (diff c d) h.le, λ h. record { le = order (diff a b) (diff c d) h })

-- and with a number on one side
pub above_number : (k a b : ℕ) → (pos k ≤ℤ sub_ℕ a b) ↔ (b + k ≤ a)
above_number k a b =
    let e : sub_ℕ k 0 ≡ pos k = sub_more k 0 k (omega arith) in (
      λ h. let s = (sub_order k 0 a b).0 (subst (λ (z : ℤ). z ≤ℤ sub_ℕ a b) (sym e) h) in omega arith,
      λ h. subst (λ (z : ℤ). z ≤ℤ sub_ℕ a b) e ((sub_order k 0 a b).1 (omega arith)),
    )

pub below_number : (a b k : ℕ) → (sub_ℕ a b ≤ℤ pos k) ↔ (a ≤ b + k)
below_number a b k =
    let e : sub_ℕ k 0 ≡ pos k = sub_more k 0 k (omega arith) in (
      λ h. let s = (sub_order a b k 0).0 (subst (λ (z : ℤ). sub_ℕ a b ≤ℤ z) (sym e) h) in omega arith,
      λ h. subst (λ (z : ℤ). sub_ℕ a b ≤ℤ z) e ((sub_order a b k 0).1 (omega arith)),
    )
