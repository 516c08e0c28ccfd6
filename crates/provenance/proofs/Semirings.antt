-- The semiring in which a measure weighs: cost in the tropical semiring and grade in that of grades, where their weight functions are the product, and days in the
-- bottleneck semiring; cost and days up to the ceiling. Assumes nothing.
use mathlib.Core.Path.{◌≡◌, refl, sym, ◌∙◌, ap}
use mathlib.Core.Bool.{true}
use mathlib.Core.List.{List, [], ◌∷◌, map}
use Prim.Native.Nat.{ℕ, ◌+◌, min, max}
use native.Mathlib.Omega.{arith}
use lib.Dec.{leb}
use borrow.Author.Tests.{le-leb}
use Rattle.semiring.specs.Semiring.{Operations, Semiring, Below, product, finite, extend, tropical}
use Rattle.semiring.specs.Chain.{present, bottleneck, grades}
use Rattle.semiring.proofs.Semiring.{tropical_semiring}
use Rattle.semiring.proofs.Chain.{backwards, better_first, bottleneck_semiring, bottleneck_plus, bottleneck-times, graded, grades_semiring, grades-times}
use Rattle.weights.specs.declared.Measure.{Measure}
use Rattle.weights.specs.declared.Measure.TheVariants.{Cost, Days, Grade}
use Rattle.weights.specs.Figures.{greatest, capped}
use Rattle.weights.specs.Measures.{Algebra, cost, days, grade, algebra, fold, weigh}
use Rattle.weights.specs.Laws.{NoWorse, Lawful}
use Rattle.weights.proofs.Laws.{least, at_most, unturn, upward, grade_lawful}
use Rattle.weights.proofs.Weighing.{fold_least}
use Rattle.provenance.specs.Semirings.{long_days, grade_of, Valuation, valuation}

-- cost without a ceiling
abbrev pub long_cost : Algebra
long_cost = record { unit = 0; join = ◌+◌; finish = ◌+◌; leq = leb; within = λ a. true }

-- A weighs by U: a weight of A is the capped weight of an exact algebra, which has no ceiling, and that is U's weight function
pub record Weighs (A : Algebra) (U : Valuation) : Type 0 where
  pub exact : Algebra
  pub lawful : Lawful exact
  pub cap_mono : {a b : ℕ} → NoWorse exact.leq a b → NoWorse A.leq (U.cap a) (U.cap b)
  pub caps : (own : ℕ) (ws : List ℕ) → weigh A own (map U.cap ws) ≡ U.cap (weigh exact own ws)
  pub laws : Semiring U.semiring
  pub element_below : {a b : ℕ} → NoWorse exact.leq a b → Below U.semiring (U.element a) (U.element b)
  pub weighs : (own : ℕ) (ws : List ℕ) → U.element (weigh exact own ws) ≡ U.function own (map U.element ws)

-- A computes in the semiring: the weight function is the product
pub record Computes (A : Algebra) (U : Valuation) : Type 0 where
  pub base : Weighs A U
  pub times : (own : ℕ) (xs : List U.semiring.Carrier) → U.function own xs ≡ U.semiring.times (U.element own) (product U.semiring xs)

-- where the element of f a b is the product of the elements, joining a list by f is the product of the list
module _ {S : Operations} (L : Semiring S) (element : ℕ → S.Carrier) (f : ℕ → ℕ → ℕ) (joins : (a b : ℕ) → element (f a b) ≡ S.times (element a) (element b)) where
  fold-product : (a : ℕ) (ws : List ℕ) → element (fold f a ws) ≡ S.times (element a) (product S (map element ws))
  unfolding fold product
  fold-product a [] = sym (L.times-one (element a))
  fold-product a (w ∷ ws) =
      let p = product S (map element ws) in
      fold-product (f a w) ws ∙ ap (λ x. S.times x p) (joins a w) ∙ L.times_assoc (element a) (element w) p

  -- from what is the product of nothing on
  unit_product : (u : ℕ) → element u ≡ S.one → (ws : List ℕ) → element (fold f u ws) ≡ product S (map element ws)
  unit_product u e ws =
      let p = product S (map element ws) in
      fold-product u ws ∙ ap (λ x. S.times x p) e ∙ L.times_comm S.one p ∙ L.times-one p

pub finite_below : {a b : ℕ} → NoWorse leb a b → finite (min a b) ≡ finite a
finite_below p = ap finite (omega (arith, at_most p))

pub long_cost_lawful : Lawful long_cost
long_cost_lawful = record {
  ordered = upward;
  join_mono = λ p q. least (omega (arith, at_most p, at_most q));
  join_left = λ b p q. least (omega (arith, at_most q));
  join_right = λ a p. least (omega arith);
  finish_mono = λ p q. least (omega (arith, at_most p, at_most q));
  finish_superior = λ own p q. least (omega (arith, at_most q));
  finish_within = λ own ws. record { holds = refl };
}

pub long_days_lawful : Lawful long_days
long_days_lawful = record {
  ordered = upward;
  join_mono = λ p q. least (omega (arith, at_most p, at_most q));
  join_left = λ b p q. least (omega (arith, at_most q));
  join_right = λ a p. least (omega arith);
  finish_mono = λ p q. least (omega (arith, at_most p, at_most q));
  finish_superior = λ own p q. least (omega (arith, at_most q));
  finish_within = λ own ws. record { holds = refl };
}

-- where one joining caps what the other joins, so do their folds
fold_caps : (f g : ℕ → ℕ → ℕ) → ((a b : ℕ) → f (capped a) (capped b) ≡ capped (g a b)) → (a : ℕ) (ws : List ℕ) → fold f (capped a) (map capped ws) ≡ capped (fold g a ws)
unfolding fold
fold_caps f g h a [] = refl
fold_caps f g h a (w ∷ ws) = ap (λ (x : ℕ). fold f x (map capped ws)) (h a w) ∙ fold_caps f g h (g a w) ws

pub cost_caps : (own : ℕ) (ws : List ℕ) → weigh cost own (map capped ws) ≡ capped (weigh long_cost own ws)
unfolding weigh
cost_caps own ws = omega (arith, fold_caps cost.join ◌+◌ (λ a b. omega arith) 0 ws)

pub days_caps : (own : ℕ) (ws : List ℕ) → weigh days own (map capped ws) ≡ capped (weigh long_days own ws)
unfolding weigh
days_caps own ws = omega (arith, fold_caps max max (λ a b. omega arith) 0 ws)

pub cost_function : (own : ℕ) (ws : List ℕ) → finite (weigh long_cost own ws) ≡ extend ◌+◌ (finite own) (product tropical (map finite ws))
unfolding weigh
cost_function own ws = ap (extend ◌+◌ (finite own)) (unit_product tropical_semiring finite ◌+◌ (λ a b. refl) 0 refl ws)

pub days_function : (own : ℕ) (ws : List ℕ) → finite (weigh long_days own ws) ≡ extend ◌+◌ (finite own) (product bottleneck (map finite ws))
unfolding weigh
days_function own ws = ap (extend ◌+◌ (finite own)) (unit_product bottleneck_semiring finite max (λ a b. sym (bottleneck-times (finite a) (finite b))) 0 refl ws)

pub days_below : {a b : ℕ} → NoWorse leb a b → Below bottleneck (finite a) (finite b)
days_below {a} {b} p = bottleneck_plus (finite a) (finite b) ∙ finite_below p

-- costs are sums, capped
abbrev pub cost_weighs : Weighs cost (valuation Cost)
cost_weighs = record {
  exact = long_cost;
  lawful = long_cost_lawful;
  cap_mono = λ p. least (omega (arith, at_most p));
  caps = cost_caps;
  laws = tropical_semiring;
  element_below = finite_below;
  weighs = cost_function;
}

abbrev pub cost_computes : Computes cost (valuation Cost)
cost_computes = record { base = cost_weighs; times = λ own xs. refl }

-- days are the own figure plus the greatest of the tail's, which is the product of the bottleneck semiring, capped
abbrev pub days_weighs : Weighs days (valuation Days)
days_weighs = record {
  exact = long_days;
  lawful = long_days_lawful;
  cap_mono = λ p. least (omega (arith, at_most p));
  caps = days_caps;
  laws = bottleneck_semiring;
  element_below = days_below;
  weighs = days_function;
}

-- grades: the product is the least of two, and what is cut at the greatest stays cut
grade_joins : (a b : ℕ) → grade_of (min a b) ≡ grades.times (grade_of a) (grade_of b)
unfolding grade_of
grade_joins a b =
    ap (λ (x : ℕ). present (finite x)) (let q : min (min a b) greatest ≡ min (min a greatest) (min b greatest) = omega arith in q)
    ∙ sym (grades-times (min a greatest) (min b greatest))

cut_twice : (a : ℕ) → grade_of (min a greatest) ≡ grade_of a
unfolding grade_of
cut_twice a = ap (λ (x : ℕ). present (finite x)) (let q : min (min a greatest) greatest ≡ min a greatest = omega arith in q)

pub grade_function : (own : ℕ) (ws : List ℕ) → grade_of (weigh grade own ws) ≡ grades.times (grade_of own) (product grades (map grade_of ws))
unfolding weigh
grade_function own ws =
    ap grade_of (fold_least own greatest ws)
    ∙ fold-product grades_semiring grade_of min grade_joins (min own greatest) ws
    ∙ ap (λ x. grades.times x (product grades (map grade_of ws))) (cut_twice own)

pub grade_below : {a b : ℕ} → NoWorse grade.leq a b → Below grades (grade_of a) (grade_of b)
unfolding grade_of
grade_below {a} {b} p =
    let h = le-leb (min b greatest) (min a greatest) (omega (arith, at_most (unturn p))) in
    better_first (backwards graded) (present (finite (min a greatest))) (present (finite (min b greatest))) h

map_same : (ws : List ℕ) → map (λ (a : ℕ). a) ws ≡ ws
map_same [] = refl
map_same (w ∷ ws) = ap (λ (xs : List ℕ). w ∷ xs) (map_same ws)

pub grade_caps : (own : ℕ) (ws : List ℕ) → weigh grade own (map (λ (a : ℕ). a) ws) ≡ weigh grade own ws
grade_caps own ws = ap (weigh grade own) (map_same ws)

-- grades are the least of the own figure and the tail's, and nothing is capped
abbrev pub grade_weighs : Weighs grade (valuation Grade)
grade_weighs = record {
  exact = grade;
  lawful = grade_lawful;
  cap_mono = λ p. p;
  caps = grade_caps;
  laws = grades_semiring;
  element_below = grade_below;
  weighs = grade_function;
}

abbrev pub grade_computes : Computes grade (valuation Grade)
grade_computes = record { base = grade_weighs; times = λ own xs. refl }

abbrev pub weighs : (m : Measure) → Weighs (algebra m) (valuation m)
weighs Cost = cost_weighs
weighs Days = days_weighs
weighs Grade = grade_weighs
