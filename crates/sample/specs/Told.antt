-- What is told of a sample's text: its mean and its variance. Assumes nothing: these are definitions.
use Rattle.std.specs.Prelude.{◌≡◌, List, [], ◌∷◌, ◌++◌, ℕ, ◌≤◌, ◌<◌, length, take}
use Rattle.statistics.specs.Summaries.{summary_of}
use Rattle.text.specs.Render.{digits}
use Rattle.sample.specs.Sample.{most_read, number_limit, summary_said, mean_said}

-- a result on each line
unfoldable pub sample_text : List ℕ → List ℕ
sample_text [] = []
sample_text (x ∷ xs) = digits x ++ 10 ∷ sample_text xs

-- no result has more than eighteen digits
pub data Readable : List ℕ → Type 0 where
  none : Readable []
  also : {x : ℕ} {xs : List ℕ} → x < number_limit → Readable xs → Readable (x ∷ xs)

-- "mean and variance of the numbers on standard input, a line each": what the call says of the results, and of more than 1,001 what it says of the first 1,001. By what a
-- text that is no sample's is refused is said by `sample_from` alone
pub record MeanTold (xs : List ℕ) : Type 0 where
  pub printed : Readable xs → mean_said (sample_text xs) ≡ summary_said (summary_of (take most_read xs))
  pub whole : length xs ≤ most_read → take most_read xs ≡ xs
