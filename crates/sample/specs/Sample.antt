-- A sample of results as a text, a number on each line, and what is said of it: its mean and its variance, a line each, numerator and denominator in lowest terms.
-- Assumes nothing: these are definitions.
use Rattle.std.specs.Prelude.{ℕ, zero, suc, ◌+◌, ◌-◌, List, [], ◌∷◌, ◌++◌, length, get_or, set, take, replicate, eqb, leb, Result, Ok, Err, Option, Some, None}
use Rattle.weights.specs.Choice.{pick}
use Rattle.refusal.specs.declared.Refusal.{Refusal}
use Rattle.refusal.specs.declared.Refusal.TheVariants.{Text}
use Rattle.statistics.specs.Summaries.{summary_of}
use Rattle.text.specs.Render.{digits}
use Rattle.cursor.specs.Cursor.{number_at}
use Rattle.reply.specs.Reply.{Said, answered, refused_by}
use Rattle.sample.specs.declared.Next.{Next}
use Rattle.sample.specs.declared.Next.TheVariants.{Number, Wrong, End}
use Rattle.statistics.specs.Samples.{Summary}

-- one more than the results that a sample may have, so that one too many is told; and the least number that is none
abbrev pub most_read : ℕ
most_read = 1001

abbrev pub number_limit : ℕ
number_limit = 1_000_000_000_000_000_000

-- 14, with the line, from 1, and the column of a byte of line i, from 0, that starts at `at`
abbrev pub wrong_at : (i at place : ℕ) → Refusal
wrong_at i at place = Text (record { 0 = i + 1 }) (record { 0 = place - at + 1 })

-- a number is followed by an LF
abbrev pub on_found : List ℕ → (stop : ℕ) → (Option ℕ) → Next
on_found s stop (Some v) = pick (eqb (get_or s stop 0) 10) (Number v (stop + 1)) (Wrong stop)
on_found s stop None = Wrong stop

unfoldable pub result_at : List ℕ → ℕ → Next
result_at s at = pick (leb (length s) at) End (on_found s (number_at s at number_limit).stop (number_at s at number_limit).found)

-- what was read, and the column with the results
pub record Read : Type 0 where
  pub sample : Result ℕ Refusal
  pub column : List ℕ

abbrev pub read : Result ℕ Refusal → List ℕ → Read
read x c = record { sample = x; column = c }

abbrev pub on_next : Next → (at i : ℕ) → List ℕ → ((v next : ℕ) → Read) → Read
on_next End at i c more = read (Ok i) c
on_next (Wrong place) at i c more = read (Err (wrong_at i at place)) c
on_next (Number v next) at i c more = more v next

-- `left` places of the column are free, and line i starts at `at`
unfoldable pub sample_from : (left : ℕ) → List ℕ → (at i : ℕ) → List ℕ → Read
sample_from zero s at i c = read (Ok i) c
sample_from (suc left) s at i c = on_next (result_at s at) at i c (λ v next. sample_from left s next (i + 1) (set c i v))

-- What is said ------------------------------------------------------------------------------------------------------------------------------------

-- a bound on a fraction's line: two numbers of 20 digits
abbrev pub most_fraction : ℕ
most_fraction = 42

unfoldable pub fraction_line : (numerator denominator : ℕ) → List ℕ
fraction_line a b = digits a ++ (32 ∷ digits b) ++ 10 ∷ []

-- "mean and variance of the numbers on standard input, a line each"
abbrev pub summary_said : Summary → Said
summary_said (Ok m) = answered (fraction_line m.mean.numerator m.mean.denominator ++ fraction_line m.variance.numerator m.variance.denominator)
summary_said (Err r) = refused_by r

abbrev pub read_said : Result ℕ Refusal → List ℕ → Said
read_said (Ok k) c = summary_said (summary_of (take k c))
read_said (Err r) c = refused_by r

unfoldable pub mean_said : List ℕ → Said
mean_said s = let x = sample_from most_read s 0 0 (replicate most_read 0) in read_said x.sample x.column
