-- What `summary_of` answers, in plain products of numbers: the mean and the variance of the results, in lowest terms, whatever their order; and what a refusal
-- tells. Request 2026-05. Assumes nothing.
use Prim.Native.Nat.{ℕ, ◌+◌, ◌*◌, ◌-◌, ◌≤◌, ◌<◌}
use mathlib.Core.Path.{◌≡◌, refl, sym, ◌∙◌, ap, ap₂, subst}
use mathlib.Core.Logic.{◌⊎◌, ⊎_elim}
use mathlib.Core.List.{List, Perm}
use native.Mathlib.Nat.{add-mul, mul_assoc, sub-add_cancel, eq_of_mul-eq-mul_left, eq-one_of_dvd-one, le_antisymm}
use native.Mathlib.Decide.{dec_le}
use native.Mathlib.Omega.{arith}
use lib.ListN.{length, get_or}
use Rattle.refusal.specs.declared.Observation.{Observation}
use Rattle.refusal.specs.declared.Refusal.{Refusal}
use Rattle.refusal.specs.declared.Refusal.TheVariants.{SampleSize, TooLarge}
use Rattle.statistics.specs.declared.Fraction.{Fraction}
use Rattle.statistics.specs.declared.Moments.{Moments}
use Rattle.statistics.specs.declared.Sums.{Sums}
use Rattle.statistics.specs.Fractions.{fraction, lowest, Reduced}
use Rattle.statistics.specs.Samples.{most_results, greatest_result, total, sum, spread, mean, variance, sample_acceptance, Sample, FirstTooLarge, Sampled, accepted, sized, large}
use Rattle.statistics.specs.Summaries.{sums_of, moments_of, answered, summary_of, Summarizes}
use Rattle.statistics.proofs.Divisors.{gcd_is}
use Rattle.statistics.proofs.Reduction.{lowest_same, lowest_reduced, lowest_unique}
use Rattle.statistics.proofs.Spread.{spread_exact}
use Rattle.statistics.proofs.Totals.{total_part, total_at_most, total_equal, total_perm, length-total}
use Rattle.statistics.proofs.Ranges.{square_above}
use Rattle.statistics.proofs.Accepting.{sampled, sample_accepted}
use Rattle.refusal.specs.Answers.{Acceptance}
use Rattle.std.specs.Prelude.{Ok, Err}

-- Accepted samples ---------------------------------------------------------------------------------------------------------------------------------

pub sample_summarized : (xs : List ℕ) → Sample xs → summary_of xs ≡ Ok (moments_of xs)
unfolding summary_of
sample_summarized xs s = ap (answered xs) (sample_accepted xs s)

-- the code's answer, from the sums and two fractions in lowest terms
pub summary_made : (xs : List ℕ) (s : Sums) (y z : Fraction) → Sample xs → s ≡ sums_of xs → y ≡ lowest s.total (length xs)
    → z ≡ lowest (length xs * s.squares - s.total * s.total) (length xs * length xs)
    → Ok (record { mean = y; variance = z }) ≡ summary_of xs
unfolding mean variance
summary_made xs s y z l e p q =
    let f : y ≡ mean xs = p ∙ ap (λ (u : Sums). lowest u.total (length xs)) e in
    let g : z ≡ variance xs = q ∙ ap (λ (u : Sums). lowest (length xs * u.squares - u.total * u.total) (length xs * length xs)) e in
    ap₂ (λ (u w : Fraction). Ok (record { mean = u; variance = w })) f g ∙ sym (sample_summarized xs l)

pub summary_refused : (xs : List ℕ) (r : Refusal) → sample_acceptance xs ≡ Err r → Err r ≡ summary_of xs
unfolding summary_of
summary_refused xs r e = sym (ap (answered xs) e)

-- an answer is of an accepted sample, and is its mean and variance
answer_is : (xs : List ℕ) (m : Moments) → summary_of xs ≡ Ok m → Sample xs × (m ≡ moments_of xs)
unfolding summary_of
answer_is xs m e = go (sampled xs) e
  where
    go : {a : Acceptance} → Sampled xs a → answered xs a ≡ Ok m → Sample xs × (m ≡ moments_of xs)
    go (accepted s) p = (s, cc)
    go (sized h) p = let z : ◌≡◌ {A = ℕ} 0 1 = cc in absurd (omega arith)
    go (large h k i t) p = let z : ◌≡◌ {A = ℕ} 0 1 = cc in absurd (omega arith)

-- what is left of a difference that is a true one, and what was taken away
put_back : (k u w d : ℕ) → w ≤ u → k ≡ (u - w) * d → k + w * d ≡ u * d
put_back k u w d h e = ap (λ (z : ℕ). z + w * d) e ∙ sym (add-mul (u - w) w d) ∙ ap (λ (z : ℕ). z * d) (sub-add_cancel h)

moments_summarize : (xs : List ℕ) → 1 ≤ length xs → Summarizes xs (moments_of xs)
unfolding mean variance
moments_summarize xs h = record {
  mean_is = (lowest_same (sum xs) (length xs)).crossed;
  variance_is = put_back _ _ _ _ (spread_exact xs) (lowest_same (spread xs) (length xs * length xs)).crossed;
  mean_reduced = lowest_reduced _ _ h;
  variance_reduced = lowest_reduced _ _ (square_above (length xs) h);
}

-- `summary_of xs` is an answer exactly of a sample within the limits (the other direction: `sample_summarized`), and says the mean and the variance
pub summarized : (xs : List ℕ) (m : Moments) → summary_of xs ≡ Ok m → Sample xs × Summarizes xs m
summarized xs m e =
    let a = answer_is xs m e in
    (a.0, subst (Summarizes xs) (sym a.1) (moments_summarize xs a.0.some))

-- Refused samples ----------------------------------------------------------------------------------------------------------------------------------

-- a refusal is 22, of no results or too many, or 23, with the index of the first result that is too large
pub refused_sample : (xs : List ℕ) (r : Refusal) → summary_of xs ≡ Err r → Sampled xs (Err r)
unfolding summary_of
refused_sample xs r e = go (sampled xs) e
  where
    go : {a : Acceptance} → Sampled xs a → answered xs a ≡ Err r → Sampled xs (Err r)
    go (accepted s) p = let z : ◌≡◌ {A = ℕ} 0 1 = cc in absurd (omega arith)
    go (sized h) p = let q : SampleSize ≡ r = cc in subst (λ (z : Refusal). Sampled xs (Err z)) q (sized h)
    go (large h k i t) p = let q : TooLarge (record { 0 = i }) ≡ r = cc in subst (λ (z : Refusal). Sampled xs (Err z)) q (large h k i t)

abbrev observation : ℕ → Observation
observation i = record { 0 = i }

pub first_too_large : (xs : List ℕ) (i : ℕ) → summary_of xs ≡ Err (TooLarge (record { 0 = i })) → (1 ≤ length xs) × (length xs ≤ most_results) × FirstTooLarge xs i
first_too_large xs i e = go (refused_sample xs _ e) refl
  where
    go : {a : Acceptance} → Sampled xs a → a ≡ Err (TooLarge (record { 0 = i })) → (1 ≤ length xs) × (length xs ≤ most_results) × FirstTooLarge xs i
    go (accepted s) p = let z : ◌≡◌ {A = ℕ} 0 1 = cc in absurd (omega arith)
    go (sized h) p = let z : ◌≡◌ {A = ℕ} 0 1 = cc in absurd (omega arith)
    go (large h k j t) p = let q : observation j ≡ observation i = cc in (h, k, subst (FirstTooLarge xs) (ap (λ (o : Observation). o.0) q) t)

pub wrong_size : (xs : List ℕ) → summary_of xs ≡ Err SampleSize → (length xs ≡ 0) ⊎ (most_results < length xs)
wrong_size xs e = go (refused_sample xs _ e) refl
  where
    go : {a : Acceptance} → Sampled xs a → a ≡ Err SampleSize → (length xs ≡ 0) ⊎ (most_results < length xs)
    go (accepted s) p = let z : ◌≡◌ {A = ℕ} 0 1 = cc in absurd (omega arith)
    go (sized h) p = h
    go (large h k i t) p = let z : ◌≡◌ {A = ℕ} 0 1 = cc in absurd (omega arith)

-- and the other way round
pub size_refused : (xs : List ℕ) → (length xs ≡ 0) ⊎ (most_results < length xs) → summary_of xs ≡ Err SampleSize
size_refused xs w = sym (summary_refused xs SampleSize (go (sampled xs) w))
  where
    go : {a : Acceptance} → Sampled xs a → (length xs ≡ 0) ⊎ (most_results < length xs) → a ≡ Err SampleSize
    go (accepted s) w = absurd (⊎_elim (λ e. omega (arith, s.some)) (λ l. omega (arith, s.few)) w)
    go (sized h) w = refl
    go (large h k i t) w = absurd (⊎_elim (λ e. omega arith) (λ l. omega arith) w)

-- there is one first result that is too large
first_one : {xs : List ℕ} {i j : ℕ} → FirstTooLarge xs i → FirstTooLarge xs j → j ≤ i
first_one {xs} {i} {j} s t = go (dec_le j i)
  where
    go : Dec (j ≤ i) → j ≤ i
    go (yes h) = h
    go (no n) = absurd (omega (arith, s.large, t.first i (omega arith)))

pub large_refused : (xs : List ℕ) (i : ℕ) → 1 ≤ length xs → length xs ≤ most_results → FirstTooLarge xs i → summary_of xs ≡ Err (TooLarge (observation i))
large_refused xs i some few t = sym (summary_refused xs _ (go (sampled xs)))
  where
    go : {a : Acceptance} → Sampled xs a → a ≡ Err (TooLarge (observation i))
    go (accepted s) = absurd (omega (arith, t.large, s.small i t.within))
    go (sized h) = absurd (⊎_elim (λ e. omega arith) (λ l. omega arith) h)
    go (large h k j s) = ap (λ (z : ℕ). Err (TooLarge (observation z))) (le_antisymm (first_one t s) (first_one s t))

-- The order ----------------------------------------------------------------------------------------------------------------------------------------

excess_none : (xs : List ℕ) → Sample xs → total (λ x. x - greatest_result) xs ≡ 0
excess_none xs s = omega (arith, total_at_most (λ x. x - greatest_result) 0 xs (λ i h. omega (arith, s.small i h)))

length_perm : (xs ys : List ℕ) → Perm xs ys → length xs ≡ length ys
length_perm xs ys p = length-total xs ∙ total_perm (λ x. 1) xs ys p ∙ sym (length-total ys)

sample_perm : (xs ys : List ℕ) → Perm xs ys → Sample xs → Sample ys
sample_perm xs ys p s =
    let n = length_perm xs ys p in
    let e : total (λ x. x - greatest_result) ys ≡ 0 = sym (total_perm (λ x. x - greatest_result) xs ys p) ∙ excess_none xs s in
    record {
      some = omega (arith, s.some);
      few = omega (arith, s.few);
      small = λ i h. omega (arith, total_part (λ x. x - greatest_result) ys i h);
    }

moments_perm : (xs ys : List ℕ) → Perm xs ys → moments_of xs ≡ moments_of ys
unfolding mean variance
moments_perm xs ys p =
    let n = length_perm xs ys p in
    let s = total_perm (λ x. x) xs ys p in
    let q = total_perm (λ x. x * x) xs ys p in
    cc

pub order_free : (xs ys : List ℕ) (m : Moments) → Perm xs ys → summary_of xs ≡ Ok m → summary_of ys ≡ Ok m
order_free xs ys m p e =
    let a = answer_is xs m e in
    sample_summarized ys (sample_perm xs ys p a.0) ∙ ap Ok (sym (moments_perm xs ys p) ∙ sym a.1)

-- Equal results ------------------------------------------------------------------------------------------------------------------------------------

whole_reduced : (x : ℕ) → Reduced (fraction x 1)
whole_reduced x = record { above = omega arith; coprime = eq-one_of_dvd-one (gcd_is x 1).second }

-- b times x, over b, is x/1
lowest_whole : (x a b : ℕ) → 0 < b → a ≡ b * x → lowest a b ≡ fraction x 1
lowest_whole x a b h e = lowest_unique (lowest a b) (fraction x 1) (lowest_reduced a b h) (whole_reduced x) (record { crossed = same (lowest a b) (lowest_same a b).crossed })
  where
    same : (f : Fraction) → f.numerator * b ≡ a * f.denominator → f.numerator * 1 ≡ x * f.denominator
    same f p =
        let left : b * (f.numerator * 1) ≡ f.numerator * b = omega arith in
        eq_of_mul-eq-mul_left b h _ _ (left ∙ p ∙ ap (λ (z : ℕ). z * f.denominator) e ∙ mul_assoc b x _)

pub equal_results : (xs : List ℕ) (x : ℕ) → Sample xs → ((i : ℕ) → i < length xs → get_or xs i 0 ≡ x)
    → summary_of xs ≡ Ok (record { mean = fraction x 1; variance = fraction 0 1 })
unfolding mean variance
equal_results xs x s f =
    let a = total_equal (λ x. x) x xs f in
    let b = total_equal (λ x. x * x) x xs f in
    let m : mean xs ≡ fraction x 1 = lowest_whole x (sum xs) (length xs) s.some a in
    let v : variance xs ≡ fraction 0 1 = lowest_whole 0 (spread xs) (length xs * length xs) (square_above (length xs) s.some) (none (length xs) _ _ a b) in
    sample_summarized xs s ∙ ap₂ (λ (y z : Fraction). Ok (record { mean = y; variance = z })) m v
  where
    none : (n t q : ℕ) → t ≡ n * x → q ≡ n * (x * x) → n * q - t * t ≡ n * n * 0
    none n t q p r = rw (p, r) (omega arith)
