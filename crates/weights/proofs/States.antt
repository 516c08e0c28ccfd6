-- What a part's state says of its numbers. The paper's "the state follows from them: unmade at depth 0, else over at figure 1,000,000,000,001, else made".
-- Assumes nothing.
use mathlib.Core.Path.{◌≡◌, refl, sym}
use mathlib.Core.Bool.{Bool, true, false}
use mathlib.Core.Logic.{◌↔◌}
use Prim.Native.Nat.{ℕ, ◌<◌}
use native.Mathlib.Omega.{arith}
use lib.Dec.{eqb}
use borrow.Author.Tests.{eqb-true, eqb-false, eq-eqb, ne_eqb}
use Rattle.weights.specs.declared.State.TheVariants.{Made, Over, Unmade}
use Rattle.weights.specs.Choice.{pick}
use Rattle.weights.specs.Figures.{over, is_over}
use Rattle.weights.specs.Labels.{state_of}

unmade_over : {A : Type 0} → Unmade ≡ Over → A
unmade_over p = let z : ◌≡◌ {A = ℕ} 0 1 = cc in absurd (omega arith)

unmade_made : {A : Type 0} → Unmade ≡ Made → A
unmade_made p = let z : ◌≡◌ {A = ℕ} 0 1 = cc in absurd (omega arith)

over_made : {A : Type 0} → Over ≡ Made → A
over_made p = let z : ◌≡◌ {A = ℕ} 0 1 = cc in absurd (omega arith)

module _ (w d : ℕ) where
  unmade_told : (x y : Bool) → eqb d 0 ≡ x → pick x Unmade (pick y Over Made) ≡ Unmade → d ≡ 0
  unmade_told true y p e = eqb-true d 0 p
  unmade_told false true p e = unmade_over (sym e)
  unmade_told false false p e = unmade_made (sym e)

  over_told : (x y : Bool) → eqb d 0 ≡ x → is_over w ≡ y → pick x Unmade (pick y Over Made) ≡ Over → (0 < d) × (w ≡ over)
  over_told true y p q e = unmade_over e
  over_told false true p q e = let n : ¬ (d ≡ 0) = eqb-false d 0 p in (omega arith, eqb-true w over q)
  over_told false false p q e = over_made (sym e)

  made_told : (x y : Bool) → eqb d 0 ≡ x → is_over w ≡ y → pick x Unmade (pick y Over Made) ≡ Made → (0 < d) × ¬ (w ≡ over)
  made_told true y p q e = unmade_made e
  made_told false true p q e = over_made e
  made_told false false p q e = let n : ¬ (d ≡ 0) = eqb-false d 0 p in (omega arith, eqb-false w over q)

  pub unmade_state : (state_of w d ≡ Unmade) ↔ (d ≡ 0)
  unmade_state = (unmade_told (eqb d 0) (is_over w) refl, λ p. rw (eq-eqb d 0 p))

  pub over_state : (state_of w d ≡ Over) ↔ ((0 < d) × (w ≡ over))
  over_state = (over_told (eqb d 0) (is_over w) refl refl, λ p. rw (ne_eqb d 0 (omega (arith, p.0)), eq-eqb w over p.1))

  pub made_state : (state_of w d ≡ Made) ↔ ((0 < d) × ¬ (w ≡ over))
  made_state = (made_told (eqb d 0) (is_over w) refl refl, λ p. rw (ne_eqb d 0 (omega (arith, p.0)), ne_eqb w over p.1))
