-- The laws of a measure, of each measure. What days and grade have in common is a law of an order: the order turned round, and the worse of two. Assumes nothing.
use Prim.Native.Nat.{ℕ, ◌+◌, ◌≤◌, min, max}
use mathlib.Core.Path.{◌≡◌, refl, sym, subst}
use mathlib.Core.Bool.{Bool, true, false}
use mathlib.Core.List.{List, [], ◌∷◌}
use native.Mathlib.Omega.{arith}
use lib.Dec.{leb}
use borrow.Author.Tests.{leb-true, leb-false, le-leb}
use Rattle.weights.specs.declared.Measure.{Measure}
use Rattle.weights.specs.declared.Measure.TheVariants.{Cost, Days, Grade}
use Rattle.weights.specs.Figures.{greatest, over, capped}
use Rattle.weights.specs.Measures.{cost, days, grade, algebra, fold}
use Rattle.weights.specs.Laws.{NoWorse, InRange, Ordered, Lawful}

-- the order by which the least is the best
pub least : {a b : ℕ} → a ≤ b → NoWorse leb a b
least {a} {b} h = record { holds = le-leb a b h }

pub at_most : {a b : ℕ} → NoWorse leb a b → a ≤ b
at_most {a} {b} p = leb-true a b p.holds

pub upward : Ordered leb
upward = record {
  reflexive = least (omega arith);
  transitive = λ p q. least (omega (arith, at_most p, at_most q));
  antisymmetric = λ p q. omega (arith, at_most p, at_most q);
  total = λ a b e. least (omega (arith, leb-false a b e));
}

-- the order turned round
pub turn : {leq : ℕ → ℕ → Bool} {a b : ℕ} → NoWorse leq a b → NoWorse (λ x y. leq y x) b a
turn p = record { holds = p.holds }

pub unturn : {leq : ℕ → ℕ → Bool} {a b : ℕ} → NoWorse (λ x y. leq y x) b a → NoWorse leq a b
unturn p = record { holds = p.holds }

pub reversed : {leq : ℕ → ℕ → Bool} → Ordered leq → Ordered (λ a b. leq b a)
reversed o = record {
  reflexive = turn o.reflexive;
  transitive = λ p q. turn (o.transitive (unturn q) (unturn p));
  antisymmetric = λ p q. o.antisymmetric (unturn q) (unturn p);
  total = λ a b e. turn (o.total b a e);
}

-- f a b is the worse of the two
record Worse (leq : ℕ → ℕ → Bool) (f : ℕ → ℕ → ℕ) : Type 0 where
  pub second : {a b : ℕ} → NoWorse leq a b → f a b ≡ b
  pub first : {a b : ℕ} → NoWorse leq b a → f a b ≡ a

-- neither of two is worse than the worse of them, which is monotone in both
module _ {leq : ℕ → ℕ → Bool} {f : ℕ → ℕ → ℕ} (o : Ordered leq) (w : Worse leq f) where
  same : {a b : ℕ} → a ≡ b → NoWorse leq a b
  same {a} {b} e = subst (λ (x : ℕ). NoWorse leq a x) e o.reflexive

  worse_left : (a b : ℕ) → NoWorse leq a (f a b)
  worse_left a b = go (leq a b) refl
    where
      go : (t : Bool) → leq a b ≡ t → NoWorse leq a (f a b)
      go true e = let p : NoWorse leq a b = record { holds = e } in o.transitive p (same (sym (w.second p)))
      go false e = same (sym (w.first (o.total a b e)))

  worse_right : (a b : ℕ) → NoWorse leq b (f a b)
  worse_right a b = go (leq a b) refl
    where
      go : (t : Bool) → leq a b ≡ t → NoWorse leq b (f a b)
      go true e = let p : NoWorse leq a b = record { holds = e } in same (sym (w.second p))
      go false e = let p = o.total a b e in o.transitive p (same (sym (w.first p)))

  worse_most : {a b c : ℕ} → NoWorse leq a c → NoWorse leq b c → NoWorse leq (f a b) c
  worse_most {a} {b} {c} p q = go (leq a b) refl
    where
      go : (t : Bool) → leq a b ≡ t → NoWorse leq (f a b) c
      go true e = o.transitive (same (w.second (record { holds = e }))) q
      go false e = o.transitive (same (w.first (o.total a b e))) p

  worse_mono : {a b c d : ℕ} → NoWorse leq a b → NoWorse leq c d → NoWorse leq (f a c) (f b d)
  worse_mono {a} {b} {c} {d} p q = worse_most (o.transitive p (worse_left b d)) (o.transitive q (worse_right b d))

max_worse : Worse leb max
max_worse = record { second = λ p. omega (arith, at_most p); first = λ p. omega (arith, at_most p) }

min_worse : Worse (λ a b. leb b a) min
min_worse = record { second = λ p. omega (arith, at_most (unturn p)); first = λ p. omega (arith, at_most (unturn p)) }

-- in every measure a weight in range is at most "over"; in grade it is at most the greatest own figure
pub below_over : (m : Measure) {a : ℕ} → InRange (algebra m) a → a ≤ over
below_over Cost {a} p = leb-true a over p.holds
below_over Days {a} p = leb-true a over p.holds
below_over Grade {a} p = omega (arith, leb-true a greatest p.holds)

pub below_greatest : {a : ℕ} → InRange grade a → a ≤ greatest
below_greatest {a} p = leb-true a greatest p.holds

capped_within : (x : ℕ) → leb (capped x) over ≡ true
capped_within x = le-leb (capped x) over (omega arith)

pub cost_lawful : Lawful cost
cost_lawful = record {
  ordered = upward;
  join_mono = λ p q. least (omega (arith, at_most p, at_most q));
  join_left = λ b p q. least (omega (arith, below_over Cost p, at_most q));
  join_right = λ a p. least (omega (arith, below_over Cost p));
  finish_mono = λ p q. least (omega (arith, at_most p, at_most q));
  finish_superior = λ own p q. least (omega (arith, below_over Cost p, at_most q));
  finish_within = λ own ws. record { holds = capped_within (own + fold cost.join 0 ws) };
}

pub days_lawful : Lawful days
days_lawful = record {
  ordered = upward;
  join_mono = worse_mono upward max_worse;
  join_left = λ {x} {a} b p q. upward.transitive q (worse_left upward max_worse a b);
  join_right = λ a {x} p. worse_right upward max_worse a x;
  finish_mono = λ p q. least (omega (arith, at_most p, at_most q));
  finish_superior = λ own p q. least (omega (arith, below_over Days p, at_most q));
  finish_within = λ own ws. record { holds = capped_within (own + fold max 0 ws) };
}

-- the least of a list is at most what it is joined from
fold_most : (a : ℕ) (ws : List ℕ) → fold min a ws ≤ a
unfolding fold
fold_most a [] = omega arith
fold_most a (w ∷ ws) = omega (arith, fold_most (min a w) ws)

pub grade_lawful : Lawful grade
grade_lawful = record {
  ordered = reversed upward;
  join_mono = worse_mono (reversed upward) min_worse;
  join_left = λ {x} {a} b p q. (reversed upward).transitive q (worse_left (reversed upward) min_worse a b);
  join_right = λ a {x} p. worse_right (reversed upward) min_worse a x;
  finish_mono = worse_mono (reversed upward) min_worse;
  finish_superior = λ own {x} {a} p q. (reversed upward).transitive q (worse_right (reversed upward) min_worse own a);
  finish_within = λ own ws. record { holds = le-leb (min own (fold min greatest ws)) greatest (omega (arith, fold_most greatest ws)) };
}

pub lawful : (m : Measure) → Lawful (algebra m)
lawful Cost = cost_lawful
lawful Days = days_lawful
lawful Grade = grade_lawful
