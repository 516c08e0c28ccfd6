-- A total order with a first and a last element is a 0-closed commutative semiring: the better of two, the worse of two, the last, the first; and multiplication
-- passes through every sum. The order read backwards is such an order. Cases: the bottleneck semiring (document 003, Semiring 5), in which days weigh, and the
-- semiring of grades. Assumes nothing.
use mathlib.Core.Path.{◌≡◌, refl, sym, ◌∙◌, ap}
use mathlib.Core.Bool.{Bool, true, false, cond}
use Prim.Native.Nat.{ℕ, min, max}
use native.Mathlib.Omega.{arith}
use lib.Dec.{leb}
use borrow.Author.Tests.{leb-true, leb-false, le-leb}
use Rattle.semiring.specs.Semiring.{Operations, Semiring, Sum, Extended, finite, infinite, least, extend}
use Rattle.semiring.specs.Chain.{ordered, at_most, bottleneck, Graded, absent, present, up_to, grades}

-- a total order by its test, with a first and a last element
pub record Chain : Type 1 where
  pub Carrier : Type 0
  pub leq : Carrier → Carrier → Bool
  pub reflexive : (a : Carrier) → leq a a ≡ true
  pub transitive : (a b c : Carrier) → leq a b ≡ true → leq b c ≡ true → leq a c ≡ true
  pub antisymmetric : (a b : Carrier) → leq a b ≡ true → leq b a ≡ true → a ≡ b
  pub total : (a b : Carrier) → leq a b ≡ false → leq b a ≡ true
  pub first : Carrier
  pub last : Carrier
  pub first_is : (a : Carrier) → leq first a ≡ true
  pub last_is : (a : Carrier) → leq a last ≡ true

-- its semiring, and in it the better and the worse of two
abbrev pub chain : Chain → Operations
chain C = ordered C.leq C.first C.last

abbrev better : (C : Chain) → C.Carrier → C.Carrier → C.Carrier
better C = (chain C).plus

abbrev worse : (C : Chain) → C.Carrier → C.Carrier → C.Carrier
worse C = (chain C).times

-- the order read backwards
abbrev pub backwards : Chain → Chain
backwards C = record {
  Carrier = C.Carrier;
  leq = λ a b. C.leq b a;
  reflexive = C.reflexive;
  transitive = λ a b c p q. C.transitive c b a q p;
  antisymmetric = λ a b p q. C.antisymmetric a b q p;
  total = λ a b e. C.total b a e;
  first = C.last;
  last = C.first;
  first_is = C.last_is;
  last_is = C.first_is;
}

never : {A : Type 0} → false ≡ true → A
never e = let z : ◌≡◌ {A = ℕ} 0 1 = cc in absurd (omega arith)

-- The better of two --------------------------------------------------------------------------------------------------------------------------------

module _ (C : Chain) where
  abbrev X : Type 0
  X = C.Carrier

  -- which of two the better is
  data Which (a b : X) : X → Type 0 where
    fst : C.leq a b ≡ true → Which a b a
    snd : C.leq b a ≡ true → Which a b b

  which : (a b : X) → Which a b (better C a b)
  which a b = go (C.leq a b) refl
    where
      go : (t : Bool) → C.leq a b ≡ t → Which a b (cond t a b)
      go true e = fst e
      go false e = snd (C.total a b e)

  better_left : (a b : X) → C.leq (better C a b) a ≡ true
  better_left a b = go (which a b)
    where
      go : {x : X} → Which a b x → C.leq x a ≡ true
      go (fst e) = C.reflexive a
      go (snd e) = e

  better_right : (a b : X) → C.leq (better C a b) b ≡ true
  better_right a b = go (which a b)
    where
      go : {x : X} → Which a b x → C.leq x b ≡ true
      go (fst e) = e
      go (snd e) = C.reflexive b

  better_greatest : (a b c : X) → C.leq c a ≡ true → C.leq c b ≡ true → C.leq c (better C a b) ≡ true
  better_greatest a b c p q = go (which a b)
    where
      go : {x : X} → Which a b x → C.leq c x ≡ true
      go (fst e) = p
      go (snd e) = q

  better_is : (a b x : X) → C.leq x a ≡ true → C.leq x b ≡ true → ((c : X) → C.leq c a ≡ true → C.leq c b ≡ true → C.leq c x ≡ true) → better C a b ≡ x
  better_is a b x p q f = C.antisymmetric _ _ (f _ (better_left a b) (better_right a b)) (better_greatest a b x p q)

  pub better_first : (a b : X) → C.leq a b ≡ true → better C a b ≡ a
  better_first a b e = better_is a b a (C.reflexive a) e (λ c p q. p)

  pub better_comm : (a b : X) → better C a b ≡ better C b a
  better_comm a b = better_is a b (better C b a) (better_right b a) (better_left b a) (λ c p q. better_greatest b a c q p)

  pub better_assoc : (a b c : X) → better C (better C a b) c ≡ better C a (better C b c)
  better_assoc a b c =
      better_is (better C a b) c (better C a (better C b c))
      (better_greatest a b _ (better_left a _) (C.transitive _ _ _ (better_right a _) (better_left b c)))
      (C.transitive _ _ _ (better_right a _) (better_right b c))
      (λ x p q. better_greatest a _ x (C.transitive _ _ _ p (better_left a b)) (better_greatest b c x (C.transitive _ _ _ p (better_right a b)) q))

  better_mono : (a b c : X) → C.leq b c ≡ true → C.leq (better C a b) (better C a c) ≡ true
  better_mono a b c h = better_greatest a c _ (better_left a b) (C.transitive _ _ _ (better_right a b) h)

  -- the first of two is better than it and another exactly if it comes first
  better_ahead : (a b : X) → better C a b ≡ a → C.leq a b ≡ true
  better_ahead a b e = ap (λ x. C.leq x b) (sym e) ∙ better_right a b

-- The semiring: the worse of two is the better of the order read backwards --------------------------------------------------------------------------

module _ (C : Chain) where
  worse_mono : (a b c : C.Carrier) → C.leq b c ≡ true → C.leq (worse C a b) (worse C a c) ≡ true
  worse_mono a b c h = better_mono (backwards C) a c b h

  pub distributes : (a b c : C.Carrier) → worse C a (better C b c) ≡ better C (worse C a b) (worse C a c)
  distributes a b c = go (C.leq b c) refl
    where
      go : (t : Bool) → C.leq b c ≡ t → worse C a (better C b c) ≡ better C (worse C a b) (worse C a c)
      go true e = ap (worse C a) (better_first C b c e) ∙ sym (better_first C _ _ (worse_mono a b c e))
      go false e =
          let h = C.total b c e in
          ap (worse C a) (better_comm C b c ∙ better_first C c b h)
          ∙ sym (better_comm C (worse C a b) (worse C a c) ∙ better_first C _ _ (worse_mono a c b h))

  pub chain_semiring : Semiring (chain C)
  chain_semiring = record {
    plus_assoc = better_assoc C;
    plus_comm = better_comm C;
    plus_nought = λ a. better_first C a C.last (C.last_is a);
    times_assoc = better_assoc (backwards C);
    times_comm = better_comm (backwards C);
    times-one = λ a. better_first (backwards C) a C.first (C.first_is a);
    distributes = distributes;
    annihilates = λ a. better_comm (backwards C) a C.last ∙ better_first (backwards C) C.last a (C.last_is a);
    closed = λ a. better_first C C.first a (C.first_is a);
  }

  module _ {I : Type 0} (g : I → C.Carrier) (a x : C.Carrier) (s : Sum (chain C) g x) where
    -- what comes before the worse of a and b, and not before a, comes before b
    behind : (y b : C.Carrier) → C.leq y a ≡ false → C.leq y (worse C a b) ≡ true → C.leq y b ≡ true
    behind y b n = go (C.leq b a) refl
      where
        go : (t : Bool) → C.leq b a ≡ t → C.leq y (cond t a b) ≡ true → C.leq y b ≡ true
        go true e h = never (sym n ∙ h)
        go false e h = h

    high : (y : C.Carrier) → ((i : I) → C.leq y (worse C a (g i)) ≡ true) → C.leq y (worse C a x) ≡ true
    high y h = go (C.leq y a) refl
      where
        go : (t : Bool) → C.leq y a ≡ t → C.leq y (worse C a x) ≡ true
        go true e = C.transitive y a _ e (better_left (backwards C) a x)
        go false e =
            let k = s.greatest y (λ i. better_first C y (g i) (behind y (g i) e (h i))) in
            C.transitive y x _ (better_ahead C y x k) (better_right (backwards C) a x)

    -- multiplication passes through every sum
    pub chain_times_sum : Sum (chain C) (λ i. worse C a (g i)) (worse C a x)
    chain_times_sum = record {
      lower = λ i. better_first C _ _ (worse_mono a x (g i) (better_ahead C x (g i) (s.lower i)));
      greatest = λ y h. better_first C y _ (high y (λ i. better_ahead C y _ (h i)));
    }

-- ℕ with an element above all -----------------------------------------------------------------------------------------------------------------------

pub refl_most : (a : Extended) → at_most a a ≡ true
refl_most (finite a) = le-leb a a (omega arith)
refl_most infinite = refl

pub trans_most : (a b c : Extended) → at_most a b ≡ true → at_most b c ≡ true → at_most a c ≡ true
trans_most (finite a) (finite b) (finite c) p q = le-leb a c (omega (arith, leb-true a b p, leb-true b c q))
trans_most (finite a) b infinite p q = refl
trans_most (finite a) infinite (finite c) p q = never q
trans_most infinite (finite b) c p q = never p
trans_most infinite infinite c p q = q

pub anti_most : (a b : Extended) → at_most a b ≡ true → at_most b a ≡ true → a ≡ b
anti_most (finite a) (finite b) p q = ap finite (omega (arith, leb-true a b p, leb-true b a q))
anti_most (finite a) infinite p q = never q
anti_most infinite (finite b) p q = never p
anti_most infinite infinite p q = refl

pub total_most : (a b : Extended) → at_most a b ≡ false → at_most b a ≡ true
total_most (finite a) (finite b) e = le-leb b a (omega (arith, leb-false a b e))
total_most (finite a) infinite e = never (sym e)
total_most infinite (finite b) e = refl
total_most infinite infinite e = never (sym e)

pub first_most : (a : Extended) → at_most (finite 0) a ≡ true
first_most (finite a) = le-leb 0 a (omega arith)
first_most infinite = refl

pub last_most : (a : Extended) → at_most a infinite ≡ true
last_most (finite a) = refl
last_most infinite = refl

abbrev pub extended : Chain
extended = record {
  Carrier = Extended;
  leq = at_most;
  reflexive = refl_most;
  transitive = trans_most;
  antisymmetric = anti_most;
  total = total_most;
  first = finite 0;
  last = infinite;
  first_is = first_most;
  last_is = last_most;
}

pub bottleneck_semiring : Semiring bottleneck
bottleneck_semiring = chain_semiring extended

pub bottleneck_plus : (a b : Extended) → bottleneck.plus a b ≡ least a b
bottleneck_plus (finite a) (finite b) = go (leb a b) refl
  where
    go : (t : Bool) → leb a b ≡ t → cond t (finite a) (finite b) ≡ finite (min a b)
    go true e = ap finite (omega (arith, leb-true a b e))
    go false e = ap finite (omega (arith, leb-false a b e))
bottleneck_plus (finite a) infinite = refl
bottleneck_plus infinite (finite b) = refl
bottleneck_plus infinite infinite = refl

pub bottleneck-times : (a b : Extended) → bottleneck.times a b ≡ extend max a b
bottleneck-times (finite a) (finite b) = go (leb b a) refl
  where
    go : (t : Bool) → leb b a ≡ t → cond t (finite a) (finite b) ≡ finite (max a b)
    go true e = ap finite (omega (arith, leb-true b a e))
    go false e = ap finite (omega (arith, leb-false b a e))
bottleneck-times (finite a) infinite = refl
bottleneck-times infinite (finite b) = refl
bottleneck-times infinite infinite = refl

-- and with an element below all ---------------------------------------------------------------------------------------------------------------------

pub refl_up : (a : Graded) → up_to a a ≡ true
refl_up absent = refl
refl_up (present a) = refl_most a

pub trans_up : (a b c : Graded) → up_to a b ≡ true → up_to b c ≡ true → up_to a c ≡ true
trans_up absent b c p q = refl
trans_up (present a) absent c p q = never p
trans_up (present a) (present b) absent p q = never q
trans_up (present a) (present b) (present c) p q = trans_most a b c p q

pub anti_up : (a b : Graded) → up_to a b ≡ true → up_to b a ≡ true → a ≡ b
anti_up absent absent p q = refl
anti_up absent (present b) p q = never q
anti_up (present a) absent p q = never p
anti_up (present a) (present b) p q = ap present (anti_most a b p q)

pub total_up : (a b : Graded) → up_to a b ≡ false → up_to b a ≡ true
total_up absent b e = never (sym e)
total_up (present a) absent e = refl
total_up (present a) (present b) e = total_most a b e

pub last_up : (a : Graded) → up_to a (present infinite) ≡ true
last_up absent = refl
last_up (present a) = last_most a

abbrev pub graded : Chain
graded = record {
  Carrier = Graded;
  leq = up_to;
  reflexive = refl_up;
  transitive = trans_up;
  antisymmetric = anti_up;
  total = total_up;
  first = absent;
  last = present infinite;
  first_is = λ a. refl;
  last_is = last_up;
}

pub grades_semiring : Semiring grades
grades_semiring = chain_semiring (backwards graded)

pub grades-times : (a b : ℕ) → grades.times (present (finite a)) (present (finite b)) ≡ present (finite (min a b))
grades-times a b = go (leb a b) refl
  where
    go : (t : Bool) → leb a b ≡ t → cond t (present (finite a)) (present (finite b)) ≡ present (finite (min a b))
    go true e = ap (λ (x : ℕ). present (finite x)) (omega (arith, leb-true a b e))
    go false e = ap (λ (x : ℕ). present (finite x)) (omega (arith, leb-false a b e))

pub grades_plus : (a b : ℕ) → grades.plus (present (finite a)) (present (finite b)) ≡ present (finite (max a b))
grades_plus a b = go (leb b a) refl
  where
    go : (t : Bool) → leb b a ≡ t → cond t (present (finite a)) (present (finite b)) ≡ present (finite (max a b))
    go true e = ap (λ (x : ℕ). present (finite x)) (omega (arith, leb-true b a e))
    go false e = ap (λ (x : ℕ). present (finite x)) (omega (arith, leb-false b a e))

pub bottleneck-times-sum : {I : Type 0} (g : I → Extended) (a x : Extended) → Sum bottleneck g x → Sum bottleneck (λ i. bottleneck.times a (g i)) (bottleneck.times a x)
bottleneck-times-sum = chain_times_sum extended

pub grades-times-sum : {I : Type 0} (g : I → Graded) (a x : Graded) → Sum grades g x → Sum grades (λ i. grades.times a (g i)) (grades.times a x)
grades-times-sum = chain_times_sum (backwards graded)
