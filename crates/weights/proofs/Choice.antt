-- A choice by a test, and its laws. Assumes nothing.
use mathlib.Core.Path.{◌≡◌, refl}
use mathlib.Core.Bool.{Bool, true, false}
use mathlib.Core.Logic.{◌⊎◌, inl, inr}
use Prim.Native.Nat.{ℕ}
use native.Mathlib.Omega.{arith}
use Rattle.weights.specs.Choice.{pick}

-- true is not false
pub apart : {A : Type 0} → false ≡ true → A
apart e = let z : ◌≡◌ {A = ℕ} 0 1 = cc in absurd (omega arith)

-- both of two tests hold, or one of them fails
pub both_true : {a b : Bool} → pick a b false ≡ true → (a ≡ true) × (b ≡ true)
both_true {a = true} e = (refl, e)
both_true {a = false} e = apart e

pub both_false : {a b : Bool} → pick a b false ≡ false → (a ≡ false) ⊎ (b ≡ false)
both_false {a = true} e = inr e
both_false {a = false} e = inl refl

pub pick-false : (b : Bool) → pick b false false ≡ false
pick-false true = refl
pick-false false = refl
