-- A call that a chain of tests decides is turned away by one refusal alone. Assumes nothing.
use mathlib.Core.Path.{◌≡◌, sym, ◌∙◌}
use mathlib.Core.Logic.{◌↔◌}
use Rattle.refusal.specs.declared.Refusal.{Refusal}
use Rattle.columns.proofs.Accepted.{refused}
use Rattle.columns.proofs.Refuses.{same_refusal}
use Rattle.promises.specs.Fixed.{Fixed}
use Rattle.refusal.specs.Answers.{Acceptance}
use Rattle.std.specs.Prelude.{Ok, Err}

-- tests that pass exactly if `Right` holds, and refuse by r exactly if `Wrong r` does, fix the result
pub fixed : {Right : Type 0} {Wrong : Refusal → Type 0} (x : Acceptance) → ((x ≡ Ok tt) ↔ Right) → ((r : Refusal) → (x ≡ Err r) ↔ Wrong r) → Fixed Right Wrong
fixed x p q = record { never = λ {r} a b. refused (sym ((q r).1 b) ∙ p.1 a); once = λ {r} {s} a b. same_refusal (sym ((q r).1 a) ∙ (q s).1 b) }
