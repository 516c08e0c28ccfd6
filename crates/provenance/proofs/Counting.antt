-- How often a line stands in a bill, and what a bill costs: the sum over all lines of figure × count. These are plain numbers with no ceiling. Assumes nothing.
use mathlib.Core.Path.{◌≡◌, refl, sym, ◌∙◌, ap, ap₂, fun_ext}
use mathlib.Core.List.{List, [], ◌∷◌, ◌++◌}
use Prim.Native.Nat.{ℕ, zero, suc, ◌+◌, ◌*◌, ◌≤◌, ◌<◌}
use native.Mathlib.Nat.{mul-add, mul-zero, mul-one}
use native.Mathlib.Omega.{arith}
use native.Mathlib.Decide.{ℕ_discrete}
use borrow.Author.Tests.{eq-eqb, ne_eqb}
use lib.IntN.{pos, sub_ℕ, ◌+ℤ◌, ◌*ℤ◌}
use Rattle.provenance.specs.Counting.{once, count, sum_below, charge, total, Raised, change_of, sum_ℤ, bill_change}
use Rattle.provenance.proofs.Integers.{sub_more, sub-sum, sub_scale}

-- every number of a list is below n
pub data AllBelow (n : ℕ) : List ℕ → Type 0 where
  none : AllBelow n []
  more : {x : ℕ} {xs : List ℕ} → x < n → AllBelow n xs → AllBelow n (x ∷ xs)

pub below_append : {n : ℕ} {xs ys : List ℕ} → AllBelow n xs → AllBelow n ys → AllBelow n (xs ++ ys)
below_append AllBelow.none q = q
below_append (AllBelow.more h p) q = AllBelow.more h (below_append p q)

pub once_same : {e x : ℕ} → x ≡ e → once e x ≡ 1
once_same {e} {x} q = rw (eq-eqb x e q)

pub once_other : {e x : ℕ} → ¬ (x ≡ e) → once e x ≡ 0
once_other {e} {x} n = rw (ne_eqb x e n)

sum-zero : (n : ℕ) → sum_below (λ e. 0) n ≡ 0
unfolding sum_below
sum-zero zero = refl
sum-zero (suc n) = omega (arith, sum-zero n)

sum_plus : (f g : ℕ → ℕ) (n : ℕ) → sum_below (λ e. f e + g e) n ≡ sum_below f n + sum_below g n
unfolding sum_below
sum_plus f g zero = refl
sum_plus f g (suc n) = omega (arith, sum_plus f g n)

module _ (own : ℕ → ℕ) where
  -- one line, among the n, counted once
  sum_beyond : (x n : ℕ) → n ≤ x → sum_below (λ e. own e * once e x) n ≡ 0
  unfolding sum_below
  sum_beyond x zero h = refl
  sum_beyond x (suc n) h = ap₂ ◌+◌ (sum_beyond x n (omega arith)) (ap (λ (k : ℕ). own n * k) (once_other {e = n} {x = x} (omega arith)) ∙ mul-zero (own n))

  sum-once : (x n : ℕ) → x < n → sum_below (λ e. own e * once e x) n ≡ own x
  unfolding sum_below
  sum-once x zero h = absurd (omega arith)
  sum-once x (suc n) h = go (ℕ_discrete x n) (sum-once x n)
    where
      go : Dec (x ≡ n) → (x < n → sum_below (λ e. own e * once e x) n ≡ own x) → sum_below (λ e. own e * once e x) n + own n * once n x ≡ own x
      go (yes q) rest = omega (arith, sum_beyond x n (omega arith), ap (λ (k : ℕ). own n * k) (once_same q) ∙ mul-one (own n), ap own q)
      go (no k) rest = omega (arith, rest (omega arith), ap (λ (k : ℕ). own n * k) (once_other k) ∙ mul-zero (own n))

  -- a bill's cost along the bill is that over all lines
  pub total-charge : {n : ℕ} {es : List ℕ} → AllBelow n es → total own es ≡ charge own n es
  unfolding total charge count
  total-charge {n} AllBelow.none = sym (ap (λ f. sum_below f n) (fun_ext (λ e. mul-zero (own e))) ∙ sum-zero n)
  total-charge {n} (AllBelow.more {x = x} {xs = xs} h p) =
      ap₂ ◌+◌ (sym (sum-once x n h)) (total-charge p)
      ∙ sym (sum_plus (λ e. own e * once e x) (λ e. own e * count e xs) n)
      ∙ sym (ap (λ f. sum_below f n) (fun_ext (λ e. mul-add (own e) (once e x) (count e xs))))

pub total_append : (own : ℕ → ℕ) (xs ys : List ℕ) → total own (xs ++ ys) ≡ total own xs + total own ys
unfolding total
total_append own [] ys = omega arith
total_append own (x ∷ xs) ys = omega (arith, total_append own xs ys)

module _ {own own' : ℕ → ℕ} {e d : ℕ} (r : Raised own own' e d) where
  raised_once : (x : ℕ) → own' x ≡ own x + d * once e x
  raised_once x = go (ℕ_discrete x e)
    where
      go : Dec (x ≡ e) → own' x ≡ own x + d * once e x
      go (yes q) = omega (arith, ap own' q, ap own q, r.here, ap (λ (k : ℕ). d * k) (once_same q) ∙ mul-one d)
      go (no n) = omega (arith, r.elsewhere x n, ap (λ (k : ℕ). d * k) (once_other n) ∙ mul-zero d)

  pub raised_more : (x : ℕ) → own x ≤ own' x
  raised_more x = omega (arith, raised_once x)

  pub raised_most : (x : ℕ) → own' x ≤ own x + d
  raised_most x = go (ℕ_discrete x e)
    where
      go : Dec (x ≡ e) → own' x ≤ own x + d
      go (yes q) = omega (arith, ap own' q, ap own q, r.here)
      go (no n) = omega (arith, r.elsewhere x n)

  -- a bill rises by d for each time that it has the line
  pub raised_total : (es : List ℕ) → total own' es ≡ total own es + d * count e es
  unfolding total count
  raised_total [] = omega (arith, mul-zero d)
  raised_total (x ∷ es) = omega (arith, raised_once x, raised_total es, mul-add d (once e x) (count e es))

-- a bill changes by what it costs now, less what it cost
pub bill_change_lem : (own own' : ℕ → ℕ) (n : ℕ) (es : List ℕ) → bill_change own own' n es ≡ sub_ℕ (charge own' n es) (charge own n es)
unfolding bill_change charge sum_ℤ sum_below
bill_change_lem own own' n es = go n
  where
    go : (n : ℕ) → sum_ℤ (λ e. change_of own own' e *ℤ pos (count e es)) n ≡ sub_ℕ (sum_below (λ e. own' e * count e es) n) (sum_below (λ e. own e * count e es) n)
    go zero = sym (sub_more 0 0 0 refl)
    go (suc n) =
        ap₂ ◌+ℤ◌ (go n) (sub_scale (own' n) (own n) (count n es))
        ∙ sub-sum (sum_below (λ e. own' e * count e es) n) (sum_below (λ e. own e * count e es) n) (own' n * count n es) (own n * count n es)

-- where one line was raised by d, by d for each time that it has the line
pub raised_change : {own own' : ℕ → ℕ} {e d n : ℕ} {es : List ℕ} → Raised own own' e d → AllBelow n es → bill_change own own' n es ≡ pos (d * count e es)
raised_change {own} {own'} {e} {d} {n} {es} r b =
    bill_change_lem own own' n es
    ∙ sub_more (charge own' n es) (charge own n es) (d * count e es) (omega (arith, total-charge own' b, raised_total r es, total-charge own b))
