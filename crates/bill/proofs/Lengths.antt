-- The laws of the column of lengths: a bill is the same from every depth that grounds it, and a walk leaves the column right. Assumes nothing.
use Rattle.std.specs.Prelude.{Option}
use mathlib.Core.Path.{◌≡◌, refl, sym, ◌∙◌, ap, ap₂, subst}
use mathlib.Core.List.{List, [], ◌∷◌, ◌++◌}
use Prim.Native.Nat.{ℕ, zero, suc, ◌≤◌, ◌<◌}
use native.Mathlib.Omega.{arith}
use native.Mathlib.Decide.{ℕ_discrete}
use lib.ListN.{length, get_or, set, replicate, length-set, length-replicate}
use lib.Seq.{get_or-set_same, get_or-set_other}
use Rattle.provenance.specs.Support.{bills, bill}
use Rattle.provenance.proofs.Existence.{zeros}
use Rattle.columns.specs.Columns.{cell}
use Rattle.bill.specs.Walk.{vertex_bill, Each, Grounded, Known, KnownStill, spend}
use Rattle.bill.proofs.Walks.{grounded}

-- bills that agree on every part of a list
bills_same : {P Q : ℕ → Type 0} {f f' : ℕ → List ℕ} → ((v : ℕ) → P v → Q v → f v ≡ f' v) → (vs : List ℕ) → Each P vs → Each Q vs → bills f vs ≡ bills f' vs
unfolding Each bills
bills_same same [] p q = refl
bills_same same (v ∷ vs) p q = ap₂ ◌++◌ (same v p.0 q.0) (bills_same same vs p.1 q.1)

module _ (spans tails edges : List ℕ) where
  -- the bill of a part is the same from every depth that grounds it
  bill_same : (d d' v : ℕ) → Grounded spans tails edges d v → Grounded spans tails edges d' v → vertex_bill spans tails edges d v ≡ vertex_bill spans tails edges d' v
  unfolding Grounded bill
  bill_same zero d' v g g' = absurd g
  bill_same (suc d) zero v g g' = absurd g'
  bill_same (suc d) (suc d') v g g' = ap (λ (es : List ℕ). get_or edges v 0 ∷ es) (bills_same (bill_same d d') _ g.2 g'.2)

  -- at first no length is known
  pub known_none : (n : ℕ) → length edges ≤ n → Known spans tails edges (replicate n 0)
  known_none n h = record { places = omega (arith, length-replicate {A = ℕ} n 0); right = λ d v g k. absurd (k (zeros n v)) }

module _ {spans tails edges : List ℕ} where
  -- nothing was stored, and one walk after another
  pub still_known : {lengths : List ℕ} → Known spans tails edges lengths → KnownStill spans tails edges lengths lengths
  still_known k = record { known = k; long = refl }

  pub known_on : {a b c : List ℕ} → KnownStill spans tails edges a b → KnownStill spans tails edges b c → KnownStill spans tails edges a c
  known_on p q = record { known = q.known; long = q.long ∙ p.long }

  -- of a part whose bill is grounded: it has a place
  module _ (depth v : ℕ) (g : Grounded spans tails edges depth v) where
    pub vertex_known : {lengths : List ℕ} → Known spans tails edges lengths → v < length lengths
    vertex_known k = omega (arith, k.places, (grounded spans tails edges depth v g).vertex)

    -- a length that is known is paid at once
    pub known_paid : {lengths : List ℕ} → Known spans tails edges lengths → ¬ (cell lengths v ≡ 0) → (b : ℕ) {r : Option ℕ} → r ≡ spend b (cell lengths v)
        → r ≡ spend b (length (vertex_bill spans tails edges depth v))
    known_paid k n b p = p ∙ ap (spend b) (k.right depth v g n)

    -- and one that was not is stored
    pub known_more : {x : ℕ} {before after : List ℕ} → x ≡ length (vertex_bill spans tails edges depth v) → KnownStill spans tails edges before after
        → KnownStill spans tails edges before (set after v x)
    known_more {x} {before} {after} p k = record {
      known = record { places = rw (length-set after v x) k.known.places; right = λ d u h n. go d u h n (ℕ_discrete u v) };
      long = length-set after v x ∙ k.long;
    }
      where
        go : (d u : ℕ) → Grounded spans tails edges d u → ¬ (cell (set after v x) u ≡ 0) → Dec (u ≡ v) → cell (set after v x) u ≡ length (vertex_bill spans tails edges d u)
        go d u h n (yes q) =
            let s = get_or-set_same after v x 0 (vertex_known k.known) in
            let e = bill_same spans tails edges depth d v g (subst (Grounded spans tails edges d) q h) in
            ap (cell (set after v x)) q ∙ s ∙ p ∙ ap length e ∙ sym (ap (λ (w : ℕ). length (vertex_bill spans tails edges d w)) q)
        go d u h n (no c) =
            let s = get_or-set_other after v u x 0 c in
            s ∙ k.known.right d u h (λ z. n (s ∙ z))
