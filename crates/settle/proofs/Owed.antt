-- Demand 1 of settling, of the answer check and of an entry. Assumes nothing.
use mathlib.Core.Path.{◌≡◌, refl}
use mathlib.Core.Bool.{Bool, true, false}
use mathlib.Core.Logic.{◌⊎◌, inl, inr}
use Prim.Native.Nat.{ℕ, ◌≤◌}
use native.Mathlib.Omega.{arith}
use lib.ListN.{get_or-eq_default}
use Rattle.weights.specs.declared.Measure.{Measure}
use Rattle.weights.specs.Labels.{label, unmade, entry_of}
use Rattle.columns.specs.Columns.{Entries, SizedEntries, Columns}
use Rattle.columns.specs.Acceptance.{lent_acceptance}
use Rattle.columns.specs.Owed.{Owed}
use Rattle.columns.specs.Right.{RightLent, WrongLent}
use Rattle.columns.specs.Same.{same_entries}
use Rattle.columns.proofs.Exactly.{lent_exactly, lent_refused_exactly}
use Rattle.settle.specs.Settling.{entries_of, entry_at, outcome, settled}
use Rattle.settle.specs.Checking.{verdict as told, checked}
use Rattle.settle.specs.Defined.{AllMean}
use Rattle.settle.proofs.Exactly.{same_exactly, same_fails}
use Rattle.refusal.specs.Answers.{Acceptance}
use Rattle.std.specs.Prelude.{Ok, Err}

module _ (m : Measure) (c : Columns) (a : Entries) where
  -- settle: "Settle a table into the answer columns"
  pub settle_owes : Owed Err a (RightLent c a) (λ _. (Ok tt)) (λ _. entries_of m c) (WrongLent c a) (settled m c a).result (settled m c a).left
  unfolding settled
  settle_owes = go (lent_acceptance c a) refl
    where
      go : (x : Acceptance) → lent_acceptance c a ≡ x
          → Owed Err a (RightLent c a) (λ _. (Ok tt)) (λ _. entries_of m c) (WrongLent c a) (outcome x (entries_of m c) a).result (outcome x (entries_of m c) a).left
      go (Ok _) p = Owed.accepted ((lent_exactly c a).0 p)
      go (Err r) p = Owed.refused ((lent_refused_exactly c a r).0 p)

  -- check answers, which writes nothing: yes where every entry means what the paper says, and no where one does not
  pub check_answers_owes : Owed Err (tt {0}) ((RightLent c a × AllMean m c a) ⊎ (RightLent c a × ¬ AllMean m c a)) (elim [ inl _ ↦ Ok true | inr _ ↦ Ok false ])
      (λ _. tt {0}) (WrongLent c a) (checked m c a) (tt {0})
  unfolding checked
  check_answers_owes = go (lent_acceptance c a) (same_entries a (entries_of m c)) refl refl
    where
      go : (x : Acceptance) (b : Bool) → lent_acceptance c a ≡ x → same_entries a (entries_of m c) ≡ b
          → Owed Err (tt {0}) ((RightLent c a × AllMean m c a) ⊎ (RightLent c a × ¬ AllMean m c a)) (elim [ inl _ ↦ Ok true | inr _ ↦ Ok false ])
          (λ _. tt {0}) (WrongLent c a) (told x b) (tt {0})
      go (Err r) b p q = Owed.refused ((lent_refused_exactly c a r).0 p)
      go (Ok _) true p q = Owed.accepted (inl ((lent_exactly c a).0 p, (same_exactly m c a p).0 q))
      go (Ok _) false p q = Owed.accepted (inr ((lent_exactly c a).0 p, (same_fails m c a p).0 q))

-- an entry is the label's at v with its state and its piece count, and no lent columns are refused
pub entry_owes : (a : Entries) (v : ℕ) → Owed (λ _. entry_of unmade 0) (tt {0}) (Unit {0}) (λ _. entry_at a v) (λ _. tt {0}) (λ _. ⊥) (entry_at a v) (tt {0})
entry_owes a v = Owed.accepted tt

-- beyond the columns it is that of an unmade part
pub entry_beyond : (a : Entries) (n v : ℕ) → SizedEntries n a → n ≤ v → entry_at a v ≡ entry_of unmade 0
entry_beyond a n v s h =
    let w = get_or-eq_default a.labels.weights 0 {n = v} (omega (arith, s.labels.weights)) in
    let d = get_or-eq_default a.labels.depths 0 {n = v} (omega (arith, s.labels.depths)) in
    let e = get_or-eq_default a.labels.edges 0 {n = v} (omega (arith, s.labels.edges)) in
    let p = get_or-eq_default a.pieces 0 {n = v} (omega (arith, s.pieces)) in
    λ i. entry_of (label (w i) (d i) (e i)) (p i)
