-- What holds of every refusal of a chain of tests: it holds of the refusal of each test that fails. Assumes nothing.
use mathlib.Core.Path.{◌≡◌, refl, sym, subst}
use mathlib.Core.Bool.{Bool, true, false}
use Rattle.refusal.specs.declared.Refusal.{Refusal}
use Rattle.columns.specs.Acceptance.{test, and_then}
use Rattle.columns.proofs.Accepted.{refused}
use Rattle.refusal.specs.Answers.{Acceptance}
use Rattle.std.specs.Prelude.{Ok, Err}

pub same_refusal : {r s : Refusal} → ◌≡◌ {A = Acceptance} (Err r) (Err s) → r ≡ s
same_refusal e = cc

-- P holds of whatever an answer refuses by
pub record Refuses (P : Refusal → Type 0) (a : Acceptance) : Type 0 where
  pub holds : {s : Refusal} → a ≡ Err s → P s

module _ {P : Refusal → Type 0} where
  pub none_refuses : Refuses P (Ok tt)
  none_refuses = record { holds = λ e. absurd (refused (sym e)) }

  -- the test that failed, or one behind it
  pub test_refuses : (b : Bool) (r : Refusal) (a : Acceptance) → (b ≡ false → P r) → (b ≡ true → Refuses P a) → Refuses P (test b r a)
  test_refuses true r a h f = f refl
  test_refuses false r a h f = record { holds = λ e. subst P (same_refusal e) (h refl) }

  pub then_refuses : (a b : Acceptance) → Refuses P a → (a ≡ Ok tt → Refuses P b) → Refuses P (and_then a b)
  then_refuses (Ok _) b f g = g refl
  then_refuses (Err r) b f g = f
