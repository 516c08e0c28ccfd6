-- Document 02, change request 2026-05. Assumes nothing.
use mathlib.Core.Path.{◌≡◌, refl}
use mathlib.Core.Logic.{◌↔◌, ◌⊎◌}
use mathlib.Core.List.{List, Perm}
use Prim.Native.Nat.{ℕ, ◌*◌, ◌≤◌, ◌<◌}
use lib.ListN.{length, get_or}
use Rattle.refusal.specs.declared.Observation.{Observation}
use Rattle.refusal.specs.declared.Refusal.TheVariants.{SampleSize, TooLarge}
use Rattle.refusal.specs.Refusals.{code, code_of}
use Rattle.statistics.specs.declared.Fraction.{Fraction}
use Rattle.statistics.specs.declared.Moments.{Moments}
use Rattle.statistics.specs.Fractions.{gcd, fraction, Greatest, Reduced, Same}
use Rattle.statistics.specs.Samples.{most_results, sum, squares, Sample, FirstTooLarge}
use Rattle.statistics.specs.Summaries.{moments_of, summary_of, Summarizes}
use Rattle.statistics.specs.Worked.{Worked}
use Rattle.statistics.proofs.Divisors.{gcd_is}
use Rattle.statistics.proofs.Reduction.{lowest_unique}
use Rattle.statistics.proofs.Spread.{spread_exact}
use Rattle.statistics.proofs.Summarized.{sample_summarized, summarized, wrong_size, size_refused, first_too_large, large_refused, order_free, equal_results}
use Rattle.statistics.proofs.Worked.{worked}
use Rattle.std.specs.Prelude.{Ok, Err}

-- 2026-05: average and spread of a year's figures --------------------------------------------------------------------------------------------------------------------

-- "Take 1 to 1,000 results of at most 1,000,000 each and return both": of these samples there is an answer, and of no other
pub summary_given : (xs : List ℕ) → Sample xs ↔ ((m : Moments) × (summary_of xs ≡ Ok m))
summary_given xs = (λ s. (moments_of xs, sample_summarized xs s), λ a. (summarized xs a.0 a.1).0)

-- "as fractions in lowest terms. The variance is the count times the sum of squares, less the square of the sum, over the count squared": in products of numbers, without
-- a difference
pub summary_is : (xs : List ℕ) (m : Moments) → summary_of xs ≡ Ok m → Summarizes xs m
summary_is xs m e = (summarized xs m e).1

-- what is taken away is never more than what is there
pub spread_is_true : (xs : List ℕ) → sum xs * sum xs ≤ length xs * squares xs
spread_is_true = spread_exact

-- "in lowest terms" names one fraction: `gcd` is what it says, and two fractions of one number, both reduced, are one
pub divisor_is : (a b : ℕ) → Greatest a b (gcd a b)
divisor_is = gcd_is

pub lowest_is_one : (f g : Fraction) → Reduced f → Reduced g → Same f g → f ≡ g
lowest_is_one = lowest_unique

-- "For 2, 4, 9 the mean is 5/1 and the variance 26/3", and samples of other kinds
pub summary_worked : Worked
summary_worked = worked

-- "Equal results give the variance 0/1", and themselves as the mean
pub summary_equal : (xs : List ℕ) (x : ℕ) → Sample xs → ((i : ℕ) → i < length xs → get_or xs i 0 ≡ x)
    → summary_of xs ≡ Ok (record { mean = fraction x 1; variance = fraction 0 1 })
summary_equal = equal_results

-- "The order of accepted results has no effect"
pub summary_order : (xs ys : List ℕ) (m : Moments) → Perm xs ys → summary_of xs ≡ Ok m → summary_of ys ≡ Ok m
summary_order = order_free

-- "22 for no results or more than 1,000": exactly then
pub summary_size : (xs : List ℕ) → (summary_of xs ≡ Err SampleSize) ↔ ((length xs ≡ 0) ⊎ (most_results < length xs))
summary_size xs = (wrong_size xs, size_refused xs)

-- "then 23 for a result above 1,000,000, with the index of the first such result, from 0, as place": exactly then
pub summary_large : (xs : List ℕ) (i : ℕ)
    → (summary_of xs ≡ Err (TooLarge (record { 0 = i }))) ↔ ((1 ≤ length xs) × (length xs ≤ most_results) × FirstTooLarge xs i)
summary_large xs i = (first_too_large xs i, λ t. large_refused xs i t.0 t.1 t.2)

pub sample_size_is : code_of SampleSize ≡ code 22 0
sample_size_is = refl

pub too_large_is : (i : Observation) → code_of (TooLarge i) ≡ code 23 i.0
too_large_is i = refl
