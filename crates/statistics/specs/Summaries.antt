-- The answer of `summarize`, and what it says in plain products of numbers: request 2026-05. Assumes nothing: these are definitions.
use Rattle.std.specs.Prelude.{ℕ, ◌+◌, ◌*◌, ◌≡◌, List, [], ◌∷◌, length, Ok, Err}
use Rattle.refusal.specs.Refusals.{code_of, result_of}
use Rattle.statistics.specs.declared.Moments.{Moments}
use Rattle.statistics.specs.declared.Sums.{Sums}
use Rattle.statistics.specs.Fractions.{Reduced}
use Rattle.statistics.specs.Samples.{sum, squares, mean, variance, sample_acceptance, Summary}
use Rattle.refusal.specs.Answers.{Acceptance}

abbrev pub sums_of : List ℕ → Sums
sums_of xs = record { total = sum xs; squares = squares xs }

abbrev pub moments_of : List ℕ → Moments
moments_of xs = record { mean = mean xs; variance = variance xs }

abbrev pub answered : List ℕ → Acceptance → Summary
answered xs (Ok _) = Ok (moments_of xs)
answered xs (Err r) = Err r

-- what `summarize` answers for the results xs
unfoldable pub summary_of : List ℕ → Summary
summary_of xs = answered xs (sample_acceptance xs)

-- in the paper's numbers: 0 where there is an answer, or the refusal's result; and the four numbers of the answer
abbrev pub summary_number : Summary → ℕ
summary_number (Ok m) = 0
summary_number (Err r) = result_of (code_of r)

abbrev pub summary_values : Summary → List ℕ
summary_values (Ok m) = m.mean.numerator ∷ m.mean.denominator ∷ m.variance.numerator ∷ m.variance.denominator ∷ []
summary_values (Err r) = []

-- m has the mean and the variance of xs, both in lowest terms; no difference is taken, so none can be cut at 0
pub record Summarizes (xs : List ℕ) (m : Moments) : Type 0 where
  pub mean_is : m.mean.numerator * length xs ≡ sum xs * m.mean.denominator
  pub variance_is :
      m.variance.numerator * (length xs * length xs) + sum xs * sum xs * m.variance.denominator
      ≡ length xs * squares xs * m.variance.denominator
  pub mean_reduced : Reduced m.mean
  pub variance_reduced : Reduced m.variance
