-- The laws of standing in a list. Assumes nothing.
use mathlib.Core.Path.{◌≡◌, refl}
use mathlib.Core.List.{List, [], ◌∷◌, ◌++◌}
use mathlib.Core.Logic.{◌⊎◌, inl, inr}
use mathlib.Core.Bool.{Bool, true, false}
use Prim.Native.Nat.{ℕ, zero, suc, ◌<◌}
use native.Mathlib.Omega.{arith}
use lib.ListN.{length, get_or, take}
use lib.Dec.{eqb}
use borrow.Author.Tests.{eq-eqb}
use Rattle.weights.specs.Choice.{pick}
use Rattle.weights.proofs.Choice.{apart}
use Rattle.weights.specs.Lists.{member}

-- a test is true or false
pub true-or-false : (b : Bool) → (b ≡ true) ⊎ (b ≡ false)
true-or-false true = inl refl
true-or-false false = inr refl

-- one of two tests is enough
pub either : (b : Bool) → pick b true true ≡ true
either true = refl
either false = refl

-- one vertex more at the end of a list
pub member_snoc : (v : ℕ) (vs : List ℕ) (w : ℕ) → member v (vs ++ w ∷ []) ≡ pick (member v vs) true (eqb v w)
unfolding member
member_snoc v [] w = go (eqb v w)
  where
    go : (b : Bool) → pick b true false ≡ b
    go true = refl
    go false = refl
member_snoc v (u ∷ us) w = go (eqb v u) (member_snoc v us w)
  where
    go : (b : Bool) → member v (us ++ w ∷ []) ≡ pick (member v us) true (eqb v w) → pick b true (member v (us ++ w ∷ [])) ≡ pick (pick b true (member v us)) true (eqb v w)
    go true r = refl
    go false r = r

-- what stands in a list is a member, and a member of its start is one of the list
pub member_at : (vs : List ℕ) (i : ℕ) → i < length vs → member (get_or vs i 0) vs ≡ true
unfolding member
member_at [] i h = absurd (omega arith)
member_at (u ∷ us) zero h = rw (eq-eqb u u refl)
member_at (u ∷ us) (suc i) h = rw (member_at us i (omega arith)) (either (eqb (get_or us i 0) u))

pub member-take : (v : ℕ) (vs : List ℕ) (i : ℕ) → member v (take i vs) ≡ true → member v vs ≡ true
unfolding member
member-take v [] zero p = p
member-take v [] (suc i) p = p
member-take v (u ∷ us) zero p = apart p
member-take v (u ∷ us) (suc i) p = go (eqb v u) (member-take v us i) p
  where
    go : (b : Bool) → (member v (take i us) ≡ true → member v us ≡ true) → pick b true (member v (take i us)) ≡ true → pick b true (member v us) ≡ true
    go true r q = refl
    go false r q = r q
