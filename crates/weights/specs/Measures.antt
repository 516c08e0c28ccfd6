-- The measures: how the weights of a derivation are joined, and which of two is the better. The paper's "Make-ups, figures, depth" (Cost, Days), and document 02's
-- 2026-03 (days) and 2026-10 (grade).
-- Assumes nothing: these are definitions.
use Rattle.std.specs.Prelude.{ℕ, ◌+◌, min, max, Bool, List, [], ◌∷◌, leb}
use Rattle.weights.specs.declared.Measure.{Measure}
use Rattle.weights.specs.declared.Measure.TheVariants.{Cost, Days, Grade}
use Rattle.weights.specs.Figures.{greatest, over, capped}

-- what a measure computes with: the weights of a tail are joined in its order, from `unit` on; `finish` takes the hyperedge's own weight and the joined ones;
-- `leq` tests whether the first of two weights is no worse; `within` says what a weight can be
pub record Algebra : Type 0 where
  pub unit : ℕ
  pub join : ℕ → ℕ → ℕ
  pub finish : ℕ → ℕ → ℕ
  pub leq : ℕ → ℕ → Bool
  pub within : ℕ → Bool

-- cost: the own figure plus the figures of the parts, capped; the least is the best
abbrev pub cost : Algebra
cost = record { unit = 0; join = λ a b. capped (a + b); finish = λ own a. capped (own + a); leq = leb; within = λ a. leb a over }

-- days: the own figure plus the greatest of the figures of the parts, capped; the least is the best
abbrev pub days : Algebra
days = record { unit = 0; join = max; finish = λ own a. capped (own + a); leq = leb; within = λ a. leb a over }

-- grade: the least of the own figure and the figures of the parts; the greatest is the best. The least of nothing is the greatest own figure
abbrev pub grade : Algebra
grade = record { unit = greatest; join = min; finish = min; leq = λ a b. leb b a; within = λ a. leb a greatest }

abbrev pub algebra : Measure → Algebra
algebra Cost = cost
algebra Days = days
algebra Grade = grade

-- from a, the weights of a list are joined in its order
unfoldable pub fold : (ℕ → ℕ → ℕ) → ℕ → List ℕ → ℕ
fold f a [] = a
fold f a (x ∷ xs) = fold f (f a x) xs

-- Definition 7's weight function of a hyperedge: from its own weight and the weights of its tail
unfoldable pub weigh : Algebra → ℕ → List ℕ → ℕ
weigh A own ws = A.finish own (fold A.join A.unit ws)
