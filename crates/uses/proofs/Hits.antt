-- Of vertices below n as many stand in a list as it has different ones: so a hyperedge more adds as many uses as it lists different vertices. Assumes nothing.
use mathlib.Core.Path.{◌≡◌, refl, sym, ◌∙◌, ap, subst}
use mathlib.Core.Bool.{Bool, true, false}
use mathlib.Core.List.{List, [], ◌∷◌, ◌++◌}
use mathlib.Core.Logic.{⊎_elim}
use Prim.Native.Nat.{ℕ, zero, suc, ◌+◌, ◌≤◌, ◌<◌}
use native.Mathlib.Numerals.{add-one}
use native.Mathlib.Omega.{arith}
use lib.ListN.{length, get_or, take}
use lib.Seq.{take-suc, take-length}
use lib.Dec.{eqb, ltb}
use borrow.Author.Tests.{eqb-true, ltb-true, ltb-false, lt-ltb, le-ltb}
use Rattle.std.specs.Bool.{Decides}
use Rattle.std.specs.List.{HoldsAt}
use Rattle.weights.specs.Lists.{member}
use Rattle.weights.proofs.Lists.{true-or-false, member_at}
use Rattle.weights.proofs.Choice.{apart}
use Rattle.weights.specs.Choice.{pick}
use Rattle.uses.specs.Uses.{distinct_in}
use Rattle.uses.proofs.Pairs.{same_or_not}
use Rattle.uses.proofs.Seen.{seen_now, seen_other}
use Rattle.uses.proofs.Room.{hits, hits_none}

-- a vertex stands at a place of a list, or at none
module _ (v : ℕ) where
  member_place : (xs : List ℕ) → member v xs ≡ true → (k : ℕ) × (k < length xs) × HoldsAt (λ y. y ≡ v) xs k
  unfolding member
  member_place [] e = apart e
  member_place (w ∷ ws) e = go (eqb v w) refl (λ f. member_place ws f) e
    where
      go : (b : Bool) → eqb v w ≡ b → (member v ws ≡ true → (k : ℕ) × (k < length ws) × HoldsAt (λ y. y ≡ v) ws k) → pick b true (member v ws) ≡ true
          → (k : ℕ) × (k < length (w ∷ ws)) × HoldsAt (λ y. y ≡ v) (w ∷ ws) k
      go true q rest f = (0, omega arith, λ d. sym (eqb-true v w q))
      go false q rest f = let r = rest f in (suc r.0, omega (arith, r.1), λ d. r.2 d)

  pub member_decides : (xs : List ℕ) (r : Bool) → Decides r ((k : ℕ) × (k < length xs) × HoldsAt (λ y. y ≡ v) xs k) → r ≡ member v xs
  member_decides xs r d = go r (member v xs) refl d
    where
      go : (b m : Bool) → member v xs ≡ m → Decides b ((k : ℕ) × (k < length xs) × HoldsAt (λ y. y ≡ v) xs k) → b ≡ m
      go true true e d = refl
      go false false e d = refl
      go true false e d = let f = d.0 refl in apart (sym e ∙ subst (λ (z : ℕ). member z xs ≡ true) (f.2 0) (member_at xs f.0 f.1))
      go false true e d = d.1 (member_place xs e)

-- no vertex; and a vertex more that was there adds none
pub distinct_none : (vs : List ℕ) → distinct_in vs 0 ≡ 0
unfolding distinct_in
distinct_none vs = refl

module _ (vs : List ℕ) (i : ℕ) where
  pub distinct_again : member (get_or vs i 0) (take i vs) ≡ true → distinct_in vs (i + 1) ≡ distinct_in vs i
  unfolding distinct_in
  distinct_again p = rw (add-one i, p) (omega arith)

  pub distinct_new : member (get_or vs i 0) (take i vs) ≡ false → distinct_in vs (i + 1) ≡ distinct_in vs i + 1
  unfolding distinct_in
  distinct_new p = rw (add-one i, p)

-- what one vertex more hits
adds : (b : Bool) → pick b 1 0 + pick b 0 1 ≡ 1
adds true = refl
adds false = refl

hits_snoc : (n : ℕ) (vs : List ℕ) (w : ℕ) → hits n (vs ++ w ∷ []) ≡ hits n vs + pick (ltb w n) (pick (member w vs) 0 1) 0
unfolding hits
hits_snoc zero vs w = rw (le-ltb w 0 (omega arith))
hits_snoc (suc n) vs w = ⊎_elim
    (λ e.
    let h = rw (le-ltb w n (omega arith)) at (hits_snoc n vs w) in
    let s : member n (vs ++ w ∷ []) ≡ true = ap (λ (z : ℕ). member z (vs ++ w ∷ [])) e ∙ seen_now vs w in
    let m : member n vs ≡ member w vs = ap (λ (z : ℕ). member z vs) e in
    rw (s, m, lt-ltb w (suc n) (omega arith)) (omega (arith, adds (member w vs))))
    (λ d. let h = hits_snoc n vs w in rw (seen_other vs w n d, same_test d) (omega arith))
    (same_or_not n w)
  where
    same_test : (n ≡ w → ⊥) → ltb w (suc n) ≡ ltb w n
    same_test d = ⊎_elim
        (λ p. lt-ltb w (suc n) (omega (arith, ltb-true w n p)) ∙ sym p)
        (λ p. le-ltb w (suc n) (omega (arith, ltb-false w n p)) ∙ sym p)
        (true-or-false (ltb w n))

-- of vertices below n
module _ (n : ℕ) (vs : List ℕ) (below : (k : ℕ) → k < length vs → get_or vs k 0 < n) where
  hits_start : (i : ℕ) → i ≤ length vs → hits n (take i vs) ≡ distinct_in vs i
  unfolding distinct_in
  hits_start zero h = hits_none n
  hits_start (suc i) h =
      ap (hits n) (take-suc vs i 0 h) ∙ hits_snoc n (take i vs) (get_or vs i 0)
      ∙ rw (lt-ltb (get_or vs i 0) n (below i h), hits_start i (omega arith))

  pub hits_distinct : hits n vs ≡ distinct_in vs (length vs)
  hits_distinct = ap (hits n) (sym (take-length vs)) ∙ hits_start (length vs) (omega arith)
