-- Samples: request 2026-05's "results", their limits, sums, mean and variance, and which samples are turned away. Assumes nothing: these are definitions.
use Rattle.std.specs.Prelude.{ℕ, ◌+◌, ◌*◌, ◌-◌, ◌≤◌, ◌<◌, ◌≡◌, ◌⊎◌, List, [], ◌∷◌, length, get_or, leb, eqb, Result, Ok, Err}
use Rattle.weights.specs.Choice.{pick}
use Rattle.refusal.specs.declared.Refusal.TheVariants.{SampleSize, TooLarge}
use Rattle.statistics.specs.declared.Fraction.{Fraction}
use Rattle.statistics.specs.Fractions.{lowest}
use Rattle.refusal.specs.Answers.{Acceptance}
use Rattle.statistics.specs.declared.Moments.{Moments}
use Rattle.refusal.specs.declared.Refusal.{Refusal}

-- the mean and the variance, or the refusal
abbrev pub Summary : Type 0
Summary = Result Moments Refusal

-- "1 to 1,000 results of at most 1,000,000 each"
abbrev pub most_results : ℕ
most_results = 1000

abbrev pub greatest_result : ℕ
greatest_result = 1_000_000

-- f of each result, added up
unfoldable pub total : (ℕ → ℕ) → List ℕ → ℕ
total f [] = 0
total f (x ∷ xs) = f x + total f xs

abbrev pub sum : List ℕ → ℕ
sum xs = total (λ x. x) xs

abbrev pub squares : List ℕ → ℕ
squares xs = total (λ x. x * x) xs

-- "the count times the sum of squares, less the square of the sum"; never cut at 0: `spread_exact`
abbrev pub spread : List ℕ → ℕ
spread xs = length xs * squares xs - sum xs * sum xs

unfoldable pub mean : List ℕ → Fraction
mean xs = lowest (sum xs) (length xs)

-- "over the count squared"
unfoldable pub variance : List ℕ → Fraction
variance xs = lowest (spread xs) (length xs * length xs)

-- 23 for the first result that is too large, where these begin at index i
unfoldable pub results_acceptance : (i : ℕ) → List ℕ → Acceptance
results_acceptance i [] = Ok tt
results_acceptance i (x ∷ xs) = pick (leb x greatest_result) (results_acceptance (i + 1) xs) (Err (TooLarge (record { 0 = i })))

-- 22, then 23
unfoldable pub sample_acceptance : List ℕ → Acceptance
sample_acceptance xs = pick (eqb (length xs) 0) (Err SampleSize) (pick (leb (length xs) most_results) (results_acceptance 0 xs) (Err SampleSize))

-- a sample within the limits
pub record Sample (xs : List ℕ) : Type 0 where
  pub some : 1 ≤ length xs
  pub few : length xs ≤ most_results
  pub small : (i : ℕ) → i < length xs → get_or xs i 0 ≤ greatest_result

-- i is the index of the first result that is too large
pub record FirstTooLarge (xs : List ℕ) (i : ℕ) : Type 0 where
  pub within : i < length xs
  pub large : greatest_result < get_or xs i 0
  pub first : (j : ℕ) → j < i → get_or xs j 0 ≤ greatest_result

-- what the answer to a sample tells: each answer's reason, and there is no other
pub data Sampled (xs : List ℕ) : Acceptance → Type 0 where
  accepted : Sample xs → Sampled xs (Ok tt)
  sized : (length xs ≡ 0) ⊎ (most_results < length xs) → Sampled xs (Err SampleSize)
  large : 1 ≤ length xs → length xs ≤ most_results → (i : ℕ) → FirstTooLarge xs i → Sampled xs (Err (TooLarge (record { 0 = i })))
