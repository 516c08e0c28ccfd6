-- The lines whose rows are printed are those that list the part. Assumes nothing.
use mathlib.Core.Path.{◌≡◌, refl, sym, ◌∙◌, subst}
use mathlib.Core.Bool.{Bool, true, false}
use mathlib.Core.List.{List, [], ◌∷◌, ◌++◌}
use Prim.Native.Nat.{ℕ, zero, suc, ◌<◌}
use native.Mathlib.Omega.{arith}
use lib.ListN.{length}
use lib.Dec.{eqb}
use borrow.Author.Tests.{eqb-true, lt-ltb, le-ltb}
use Rattle.weights.specs.Choice.{pick}
use Rattle.weights.specs.Lists.{member}
use Rattle.weights.proofs.Choice.{apart}
use Rattle.weights.proofs.Lists.{member_at}
use Rattle.columns.specs.Columns.{Columns, cell, tail_at}
use Rattle.uses.specs.Uses.{uses_below}
use Rattle.whereused.specs.WhereUsed.{uses_of, uses_said}
use Rattle.whereused.specs.Listed.{Needing, none, lists, passes, UsesTold}
use Rattle.whereused.proofs.Said.{uses_fit}

-- a member has its place
member_place : (v : ℕ) (vs : List ℕ) → member v vs ≡ true → (i : ℕ) × (i < length vs) × (cell vs i ≡ v)
unfolding member
member_place v [] e = apart e
member_place v (w ∷ ws) e = go (eqb v w) refl e (member_place v ws)
  where
    go : (b : Bool) → eqb v w ≡ b → pick b true (member v ws) ≡ true → (member v ws ≡ true → (i : ℕ) × (i < length ws) × (cell ws i ≡ v))
        → (i : ℕ) × (i < suc (length ws)) × (cell (w ∷ ws) i ≡ v)
    go true q r rest = (0, omega arith, sym (eqb-true _ _ q))
    go false q r rest = let p = rest r in (suc p.0, omega (arith, p.1), p.2)

needing : (c : Columns) (v k : ℕ) → Needing c v k (uses_below (tail_at c) v k)
unfolding uses_below
needing c v zero = none
needing c v (suc k) = go (member v (tail_at c k)) refl (needing c v k)
  where
    before : List ℕ
    before = uses_below (tail_at c) v k

    go : (b : Bool) → member v (tail_at c k) ≡ b → Needing c v k before → Needing c v (suc k) (pick b (before ++ k ∷ []) before)
    go true q n = let p = member_place v (tail_at c k) q in lists n p.0 p.1 p.2
    go false q n = passes n (λ i h e. apart (sym q ∙ subst (λ (u : ℕ). member u (tail_at c k) ≡ true) e (member_at (tail_at c k) i h)))

pub uses_told : (c : Columns) (v : ℕ) → UsesTold c v
unfolding uses_said
uses_told c v = record {
  lines = uses_of c v;
  needing = needing c v (length c.heads);
  printed = λ h. rw (lt-ltb v c.vertices h);
  absent = λ h. rw (le-ltb v c.vertices h);
  fits = uses_fit c v;
}
