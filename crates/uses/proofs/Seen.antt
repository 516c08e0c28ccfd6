-- A tail that is passed vertex by vertex: which vertices were seen, and what the columns say of the next. Assumes nothing.
use mathlib.Core.Path.{◌≡◌, refl, sym, ◌∙◌, ap, fun_ext}
use mathlib.Core.List.{List, [], ◌∷◌, ◌++◌}
use mathlib.Core.Logic.{⊎_elim}
use mathlib.Core.Bool.{Bool, true, false}
use Prim.Native.Nat.{ℕ, suc, ◌+◌, ◌-◌, ◌≤◌, ◌<◌}
use native.Mathlib.Numerals.{add-one}
use native.Mathlib.Omega.{arith}
use lib.ListN.{length, get_or, take, drop}
use lib.Seq.{take-suc, take_all}
use borrow.Author.Tests.{eq-eqb, ne_eqb}
use Rattle.weights.specs.Lists.{member}
use Rattle.weights.proofs.Lists.{either, member_at, member_snoc}
use Rattle.weights.specs.Choice.{pick}
use Rattle.columns.specs.Columns.{tail_of}
use Rattle.columns.specs.Acceptance.{all_below}
use Rattle.columns.proofs.Accepted.{below_at}
use Rattle.uses.specs.Uses.{uses_below}
use Rattle.uses.specs.Indexable.{TailReadable}
use Rattle.uses.proofs.Pairs.{same_or_not}

-- the vertices of a list
abbrev pub seen_in : List ℕ → ℕ → Bool
seen_in vs v = member v vs

-- the uses below e, and e where it was seen
abbrev pub uses_by : (tail : ℕ → List ℕ) → ℕ → (ℕ → Bool) → ℕ → List ℕ
uses_by tail e seen v = pick (seen v) (uses_below tail v e ++ e ∷ []) (uses_below tail v e)

or-false : (b : Bool) → pick b true false ≡ b
or-false true = refl
or-false false = refl

module _ (vs : List ℕ) (w : ℕ) where
  pub seen_now : member w (vs ++ w ∷ []) ≡ true
  seen_now = member_snoc w vs w ∙ rw (eq-eqb w w refl) (either (member w vs))

  pub seen_other : (v : ℕ) → (v ≡ w → ⊥) → member v (vs ++ w ∷ []) ≡ member v vs
  seen_other v d = member_snoc v vs w ∙ rw (ne_eqb v w d) (or-false (member v vs))

  pub seen_again : member w vs ≡ true → seen_in (vs ++ w ∷ []) ≡ seen_in vs
  seen_again p = fun_ext (λ v. ⊎_elim (λ e. rw e (seen_now ∙ sym p)) (λ d. seen_other v d) (same_or_not v w))

-- what a loop over the tail's places passes
pub places_are : (from size : ℕ) (tails : List ℕ) → take (from + size - from) (drop from tails) ≡ take size (drop from tails)
places_are from size tails = let k : from + size - from ≡ size = omega arith in ap (λ (z : ℕ). take z (drop from tails)) k

-- place i of the tail of hyperedge e
module _ {n : ℕ} {spans tails : List ℕ} {e : ℕ} (r : TailReadable n spans tails e) {xs : List ℕ} (p : xs ≡ tail_of spans tails e) (i : ℕ) where
  pub vertex_below : i < length xs → get_or xs i 0 < n
  vertex_below h = below_at n xs (ap (all_below n) p ∙ r.listed) i h

  pub vertex_listed : i < length xs → member (get_or xs i 0) (tail_of spans tails e) ≡ true
  vertex_listed h = ap (member (get_or xs i 0)) (sym p) ∙ member_at xs i h

  pub one_more : i < length xs → take (i + 1) (tail_of spans tails e) ≡ take i (tail_of spans tails e) ++ get_or xs i 0 ∷ []
  one_more h =
      ap (λ (z : ℕ). take z (tail_of spans tails e)) (add-one i) ∙ ap (take (suc i)) (sym p) ∙ take-suc xs i 0 h
      ∙ ap (λ (zs : List ℕ). take i zs ++ get_or xs i 0 ∷ []) p

  pub whole : length xs ≤ i → take i (tail_of spans tails e) ≡ tail_of spans tails e
  whole h = take_all i (tail_of spans tails e) (omega (arith, ap length p))
