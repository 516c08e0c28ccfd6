-- The semiring of a total order with a first and a last element, by its test: those of days and grade. Their orders: ℕ with an element above all, and that with one
-- below all. Assumes nothing: these are definitions.
use Rattle.std.specs.Prelude.{Bool, true, false, cond, leb}
use Rattle.semiring.specs.Semiring.{Operations, Extended, finite, infinite}

-- the semiring of an order by its test: the better of two, the worse of two, the last, the first
abbrev pub ordered : {A : Type 0} (leq : A → A → Bool) (first last : A) → Operations
ordered {A} leq first last = record { Carrier = A; plus = λ a b. cond (leq a b) a b; times = λ a b. cond (leq b a) a b; nought = last; one = first }

-- a is at most b, in ℕ with an element above all
abbrev pub at_most : Extended → Extended → Bool
at_most (finite a) (finite b) = leb a b
at_most (finite a) infinite = true
at_most infinite (finite b) = false
at_most infinite infinite = true

-- (ℕ ∪ {∞}, min, max, ∞, 0): document 003, Semiring 5
abbrev pub bottleneck : Operations
bottleneck = ordered at_most (finite 0) infinite

-- and with an element below all, 0 too: the grade of what has no make-up
pub data Graded : Type 0 where
  absent : Graded
  present : Extended → Graded

abbrev pub up_to : Graded → Graded → Bool
up_to absent b = true
up_to (present a) absent = false
up_to (present a) (present b) = at_most a b

-- (ℕ between absent and ∞, max, min, absent, ∞): the greater is the better
abbrev pub grades : Operations
grades = ordered (λ a b. up_to b a) (present infinite) absent
