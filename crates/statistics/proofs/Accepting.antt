-- Which samples are accepted, and why the others are turned away: the test in the code's order, and what its answer tells. Assumes nothing.
use Prim.Native.Nat.{ℕ, zero, suc, ◌+◌, ◌≤◌, ◌<◌}
use mathlib.Core.Path.{◌≡◌, refl, sym, ◌∙◌, subst}
use mathlib.Core.Bool.{Bool, true, false}
use mathlib.Core.Logic.{inl, inr, ⊎_elim}
use mathlib.Core.List.{List, [], ◌∷◌}
use native.Mathlib.Nat.{zero-add}
use native.Mathlib.Numerals.{add-one}
use native.Mathlib.Omega.{arith}
use lib.ListN.{length, get_or, drop, drop_of_length-le}
use lib.Seq.{drop-cons}
use lib.Dec.{leb, eqb}
use borrow.Author.Tests.{leb-true, leb-false, le-leb, lt-leb, eqb-true, eqb-false}
use Rattle.weights.specs.Choice.{pick}
use Rattle.refusal.specs.declared.Refusal.{Refusal}
use Rattle.refusal.specs.declared.Refusal.TheVariants.{SampleSize, TooLarge}
use Rattle.statistics.specs.Samples.{most_results, greatest_result, results_acceptance, sample_acceptance, Sample, FirstTooLarge, Sampled, accepted, sized, large}
use Rattle.refusal.specs.Answers.{Acceptance}
use Rattle.std.specs.Prelude.{Ok, Err}

-- the code's steps: a result that passes, one that is too large, and none left
pub results_pass : (xs : List ℕ) (i : ℕ) → i < length xs → get_or xs i 0 ≤ greatest_result → results_acceptance (i + 1) (drop (i + 1) xs) ≡ results_acceptance i (drop i xs)
unfolding results_acceptance
results_pass xs i h k = rw (add-one i, drop-cons xs i 0 h, le-leb _ _ k) (rw (add-one i))

pub results_stop : (xs : List ℕ) (i : ℕ) → i < length xs → greatest_result < get_or xs i 0 → Err (TooLarge (record { 0 = i })) ≡ results_acceptance i (drop i xs)
unfolding results_acceptance
results_stop xs i h k = rw (drop-cons xs i 0 h, lt-leb _ _ k)

pub results_end : (xs : List ℕ) (i : ℕ) → length xs ≤ i → (Ok tt) ≡ results_acceptance i (drop i xs)
unfolding results_acceptance
results_end xs i h = rw (drop_of_length-le xs h)

-- what the answer tells of results that begin at index i
data Looked (i : ℕ) (xs : List ℕ) : Acceptance → Type 0 where
  passed : ((j : ℕ) → j < length xs → get_or xs j 0 ≤ greatest_result) → Looked i xs (Ok tt)
  stopped : (j k : ℕ) → k ≡ i + j → FirstTooLarge xs j → Looked i xs (Err (TooLarge (record { 0 = k })))

-- one result more before those up to the n-th
small-cons : (x : ℕ) (xs : List ℕ) {n : ℕ} → x ≤ greatest_result → ((j : ℕ) → j < n → get_or xs j 0 ≤ greatest_result)
    → (j : ℕ) → j < suc n → get_or (x ∷ xs) j 0 ≤ greatest_result
small-cons x xs h f zero l = h
small-cons x xs h f (suc j) l = f j (omega arith)

looked : (i : ℕ) (xs : List ℕ) → Looked i xs (results_acceptance i xs)
unfolding results_acceptance
looked i [] = passed (λ j h. absurd (omega arith))
looked i (x ∷ xs) = go (leb x greatest_result) refl (looked (i + 1) xs)
  where
    next : {a : Acceptance} → x ≤ greatest_result → Looked (i + 1) xs a → Looked i (x ∷ xs) a
    next h (passed f) = passed (small-cons x xs h f)
    next h (stopped j k e t) = stopped (suc j) k (omega arith) (record {
      within = omega (arith, t.within);
      large = t.large;
      first = small-cons x xs h t.first;
    })

    go : (b : Bool) → leb x greatest_result ≡ b → Looked (i + 1) xs (results_acceptance (i + 1) xs)
        → Looked i (x ∷ xs) (pick b (results_acceptance (i + 1) xs) (Err (TooLarge (record { 0 = i }))))
    go true e r = next (leb-true _ _ e) r
    go false e r = stopped 0 i (omega arith) (record { within = omega arith; large = leb-false _ _ e; first = λ j l. absurd (omega arith) })

pub sampled : (xs : List ℕ) → Sampled xs (sample_acceptance xs)
unfolding sample_acceptance
sampled xs = go (eqb (length xs) 0) refl
  where
    results : {a : Acceptance} → 1 ≤ length xs → length xs ≤ most_results → Looked 0 xs a → Sampled xs a
    results h k (passed f) = accepted (record { some = h; few = k; small = f })
    results h k (stopped j i e t) = subst (λ (z : ℕ). Sampled xs (Err (TooLarge (record { 0 = z })))) (sym (e ∙ zero-add j)) (large h k j t)

    most : (b : Bool) → leb (length xs) most_results ≡ b → 1 ≤ length xs → Sampled xs (pick b (results_acceptance 0 xs) (Err SampleSize))
    most true e h = results h (leb-true _ _ e) (looked 0 xs)
    most false e h = sized (inr (leb-false _ _ e))

    go : (b : Bool) → eqb (length xs) 0 ≡ b
        → Sampled xs (pick b (Err SampleSize) (pick (leb (length xs) most_results) (results_acceptance 0 xs) (Err SampleSize)))
    go true e = sized (inl (eqb-true _ _ e))
    go false e = let n : length xs ≡ 0 → ⊥ = eqb-false _ _ e in most (leb (length xs) most_results) refl (omega arith)

refused : {r : Refusal} → ◌≡◌ {A = Acceptance} (Err r) (Ok tt) → ⊥
refused e = let z : ◌≡◌ {A = ℕ} 0 1 = cc in omega arith

pub accepted_sample : (xs : List ℕ) → sample_acceptance xs ≡ Ok tt → Sample xs
accepted_sample xs e = go (sampled xs) e
  where
    go : {a : Acceptance} → Sampled xs a → a ≡ Ok tt → Sample xs
    go (accepted s) p = s
    go (sized h) p = absurd (refused p)
    go (large h k i t) p = absurd (refused p)

pub sample_accepted : (xs : List ℕ) → Sample xs → sample_acceptance xs ≡ Ok tt
sample_accepted xs s = go (sampled xs)
  where
    go : {a : Acceptance} → Sampled xs a → a ≡ Ok tt
    go (accepted _) = refl
    go (sized h) = absurd (⊎_elim (λ e. omega (arith, s.some)) (λ l. omega (arith, s.few)) h)
    go (large h k i t) = absurd (omega (arith, t.large, s.small i t.within))
