-- The laws of the definitions of specs/ by which the loops go. Assumes nothing.
use mathlib.Core.Path.{◌≡◌, refl, sym}
use mathlib.Core.List.{List, [], ◌∷◌}
use mathlib.Core.Bool.{Bool, true, false, ◌&&◌}
use Prim.Native.Nat.{ℕ, suc, ◌+◌, ◌-◌, ◌≤◌, ◌<◌}
use native.Mathlib.Numerals.{add-one}
use native.Mathlib.Nat.{sub-eq-zero_of_le}
use native.Mathlib.Omega.{arith}
use lib.ListN.{length, get_or, drop, drop_of_length-le}
use lib.Seq.{drop-cons}
use lib.Dec.{eqb, ltb}
use Rattle.std.specs.List.{fold}
use borrow.Author.Tests.{lt-ltb, le-ltb, le-leb, lt-leb, eq-eqb, ne_eqb}
use Rattle.weights.specs.Choice.{pick}
use Rattle.weights.proofs.Choice.{pick-false}
use Rattle.refusal.specs.declared.Refusal.{Refusal}
use Rattle.columns.specs.Columns.{Columns, offset_at, length_at}
use Rattle.columns.specs.Acceptance.{all_below, edge_at, edges_acceptance}
use Rattle.std.specs.Prelude.{Ok, Err}

-- a test of a definition, from the fact that a branch gives: `search tests` at a return
pub ruleset tests = (lt-ltb, le-ltb, le-leb, lt-leb, eq-eqb, ne_eqb)

pick_itself : (b : Bool) → pick b true false ≡ b
pick_itself true = refl
pick_itself false = refl

-- whether all numbers of a list are below n: those before place i are, if `above` is 0, and those from i on
unfoldable pub below_from : ℕ → List ℕ → (above i : ℕ) → Bool
below_from n xs above i = pick (eqb above 0) (all_below n (drop i xs)) false

-- one number more that is below n, one that is not, and none left
module _ (n : ℕ) (xs : List ℕ) (above i : ℕ) where
  pub below_more : i < length xs → get_or xs i 0 < n → below_from n xs above (i + 1) ≡ below_from n xs above i
  unfolding all_below below_from
  below_more h l = rw (add-one, drop-cons xs i 0 h, lt-ltb _ _ l)

  pub below_stop : i < length xs → n ≤ get_or xs i 0 → below_from n xs 1 (i + 1) ≡ below_from n xs above i
  unfolding all_below below_from
  below_stop h l = rw (drop-cons xs i 0 h, le-ltb _ _ l) (sym (pick-false (eqb above 0)))

  pub below_end : length xs ≤ i → eqb above 0 ≡ below_from n xs above i
  unfolding all_below below_from
  below_end h = rw (drop_of_length-le xs h) (sym (pick_itself (eqb above 0)))

-- the list looked through from its start, all numbers of it
pub below_fold : (n : ℕ) (xs : List ℕ) (b : Bool) → fold (λ b v. b && ltb v n) b xs ≡ pick b (all_below n xs) false
unfolding all_below
below_fold n [] b = sym (pick_itself b)
below_fold n (v ∷ vs) true = below_fold n vs (ltb v n)
below_fold n (v ∷ vs) false = below_fold n vs false

-- of the m hyperedges from e on: one is passed, one is refused, and none is left
module _ (c : Columns) (m e end : ℕ) where
  one_more : e < m → m - e ≡ suc (m - (e + 1))
  one_more h = omega arith

  pub edges_step : e < m → edge_at c e end ≡ Ok tt → edges_acceptance c (m - (e + 1)) (e + 1) (offset_at c e + length_at c e) ≡ edges_acceptance c (m - e) e end
  unfolding edges_acceptance
  edges_step h p = rw (one_more h, p)

  pub edges_stop : (r : Refusal) → e < m → edge_at c e end ≡ Err r → Err r ≡ edges_acceptance c (m - e) e end
  unfolding edges_acceptance
  edges_stop r h p = rw (one_more h, p)

  pub edges_end : m ≤ e → (Ok tt) ≡ edges_acceptance c (m - e) e end
  unfolding edges_acceptance
  edges_end h = rw (sub-eq-zero_of_le h)
