-- The laws of a measure: its order is total; joining and finishing are monotone; what is in range and no worse than a weight is no worse than that weight joined or
-- finished (document 000: superior); and a finished weight is in range.
-- They are one record, and each measure is an instance of it: whatever stands on the record holds of every measure. Assumes nothing: these are definitions.
use Rattle.std.specs.Prelude.{◌≡◌, Bool, true, false, List, ℕ}
use Rattle.weights.specs.Measures.{Algebra, fold}

-- a is no worse than b, by the order's test
pub record NoWorse (leq : ℕ → ℕ → Bool) (a b : ℕ) : Type 0 where
  pub holds : leq a b ≡ true

pub record InRange (A : Algebra) (a : ℕ) : Type 0 where
  pub holds : A.within a ≡ true

-- a total order
pub record Ordered (leq : ℕ → ℕ → Bool) : Type 0 where
  pub reflexive : {a : ℕ} → NoWorse leq a a
  pub transitive : {a b c : ℕ} → NoWorse leq a b → NoWorse leq b c → NoWorse leq a c
  pub antisymmetric : {a b : ℕ} → NoWorse leq a b → NoWorse leq b a → a ≡ b
  pub total : (a b : ℕ) → leq a b ≡ false → NoWorse leq b a

pub record Lawful (A : Algebra) : Type 0 where
  pub ordered : Ordered A.leq
  pub join_mono : {a b c d : ℕ} → NoWorse A.leq a b → NoWorse A.leq c d → NoWorse A.leq (A.join a c) (A.join b d)
  pub join_left : {x a : ℕ} (b : ℕ) → InRange A x → NoWorse A.leq x a → NoWorse A.leq x (A.join a b)
  pub join_right : (a : ℕ) {x : ℕ} → InRange A x → NoWorse A.leq x (A.join a x)
  pub finish_mono : {a b c d : ℕ} → NoWorse A.leq a b → NoWorse A.leq c d → NoWorse A.leq (A.finish a c) (A.finish b d)
  pub finish_superior : (own : ℕ) {x a : ℕ} → InRange A x → NoWorse A.leq x a → NoWorse A.leq x (A.finish own a)
  pub finish_within : (own : ℕ) (ws : List ℕ) → InRange A (A.finish own (fold A.join A.unit ws))
