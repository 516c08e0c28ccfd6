-- Request 2026-05's example, a single result, equal results, and refused samples of each kind. Assumes nothing: these are definitions.
use Rattle.std.specs.Prelude.{ℕ, ◌≡◌, [], ◌∷◌, replicate, Ok, Err}
use Rattle.refusal.specs.declared.Refusal.TheVariants.{SampleSize, TooLarge}
use Rattle.statistics.specs.Fractions.{fraction}
use Rattle.statistics.specs.Summaries.{summary_of}
use Rattle.statistics.specs.Samples.{Summary}

-- the answer with the mean a/b and the variance c/d
abbrev pub answer : (a b c d : ℕ) → Summary
answer a b c d = Ok (record { mean = fraction a b; variance = fraction c d })

pub record Worked : Type 0 where
  pub three : summary_of (2 ∷ 4 ∷ 9 ∷ []) ≡ answer 5 1 26 3
  pub one : summary_of (7 ∷ []) ≡ answer 7 1 0 1
  pub equal : summary_of (6 ∷ 6 ∷ 6 ∷ 6 ∷ []) ≡ answer 6 1 0 1
  pub nought : summary_of (0 ∷ []) ≡ answer 0 1 0 1
  pub none : summary_of [] ≡ Err SampleSize
  pub many : summary_of (replicate {A = ℕ} 1001 2_000_000) ≡ Err SampleSize
  pub large : summary_of (1_000_000 ∷ 1_000_001 ∷ 1_000_002 ∷ []) ≡ Err (TooLarge (record { 0 = 1 }))
