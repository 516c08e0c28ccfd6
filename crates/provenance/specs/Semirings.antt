-- How a measure's figures stand in a semiring: cost in the tropical semiring and days in the bottleneck semiring, both up to the ceiling, and grade in the semiring of
-- grades. Assumes nothing: these are definitions.
use Rattle.std.specs.Prelude.{◌≡◌, true, List, ℕ, ◌+◌, min, max, leb}
use Rattle.semiring.specs.Semiring.{Operations, product, finite, extend, tropical}
use Rattle.semiring.specs.Chain.{Graded, present, bottleneck, grades}
use Rattle.weights.specs.declared.Measure.{Measure}
use Rattle.weights.specs.declared.Measure.TheVariants.{Cost, Days, Grade}
use Rattle.weights.specs.declared.Label.{Label}
use Rattle.weights.specs.Figures.{greatest, capped}
use Rattle.weights.specs.Measures.{Algebra}
use Rattle.provenance.specs.Labelling.{Made}

-- days without a ceiling
abbrev pub long_days : Algebra
long_days = record { unit = 0; join = max; finish = ◌+◌; leq = leb; within = λ a. true }

-- the element of a grade: the figure, cut at the greatest own figure, where a joining in grade starts. Nothing is cut in an accepted table
unfoldable pub grade_of : ℕ → Graded
grade_of a = present (finite (min a greatest))

-- a number's element, Definition 7's weight function of a line by its own figure, and the figure that a number becomes
pub record Valuation : Type 1 where
  pub semiring : Operations
  pub element : ℕ → semiring.Carrier
  pub function : ℕ → List semiring.Carrier → semiring.Carrier
  pub cap : ℕ → ℕ

-- a cost is the own figure plus those of the parts, days are the own figure plus the greatest of the parts', a grade is the least of all; only a grade has no ceiling
abbrev pub valuation : Measure → Valuation
valuation Cost = record { semiring = tropical; element = finite; function = λ own xs. tropical.times (finite own) (product tropical xs); cap = capped }
valuation Days = record { semiring = bottleneck; element = finite; function = λ own xs. extend ◌+◌ (finite own) (product bottleneck xs); cap = capped }
valuation Grade = record { semiring = grades; element = grade_of; function = λ own xs. grades.times (grade_of own) (product grades xs); cap = λ a. a }

-- the source says an element of a part whose label is l: that of a number whose figure the label has, or the empty sum where the part is unmade
pub record Valued (U : Valuation) (Says : U.semiring.Carrier → Type 0) (l : Label) : Type 0 where
  pub made : Made l → (x : ℕ) × Says (U.element x) × (l.weight.0 ≡ U.cap x)
  pub unmade : l.depth ≡ 0 → Says U.semiring.nought
