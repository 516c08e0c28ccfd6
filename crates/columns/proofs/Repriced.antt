-- A table with one own figure or one strike mark changed, to any that is allowed: what it then holds, and that it is accepted as before. Assumes nothing.
use mathlib.Core.Path.{◌≡◌, refl, ◌∙◌, ap}
use mathlib.Core.List.{List}
use Prim.Native.Nat.{ℕ, zero, suc, ◌≤◌, ◌<◌}
use native.Mathlib.Omega.{arith}
use native.Mathlib.Decide.{ℕ_discrete}
use lib.ListN.{length, get_or, set, length-set}
use lib.Seq.{get_or-set_same, get_or-set_other, set-set, set-get_or}
use Rattle.weights.specs.Figures.{greatest, struck_mark}
use Rattle.columns.specs.Columns.{Columns, columns, own_at, strike_at, with_own, with_strike}
use Rattle.columns.specs.Acceptance.{acceptance}
use Rattle.columns.specs.Right.{end_before, RightOwn, RightMark}
use Rattle.columns.proofs.Exactly.{accepted_exactly}
use Rattle.std.specs.Prelude.{Ok}

-- one place of a column changed to a number within a limit: every place that was within it still is
set-low : (xs : List ℕ) (e w limit : ℕ) → e < length xs → w ≤ limit → (x : ℕ) → get_or xs x 0 ≤ limit → get_or (set xs e w) x 0 ≤ limit
set-low xs e w limit fits low x h = go (ℕ_discrete x e)
  where
    go : Dec (x ≡ e) → get_or (set xs e w) x 0 ≤ limit
    go (yes q) = omega (arith, ap (λ (y : ℕ). get_or (set xs e w) y 0) q, get_or-set_same xs e w 0 fits)
    go (no n) = omega (arith, get_or-set_other xs e x w 0 n)

-- other own figures and strike marks, as many and as low as they must be
module _ (c : Columns) (own strikes : List ℕ) where
  abbrev c' : Columns
  c' = columns c.vertices c.heads own strikes c.spans c.tails

  end_kept : (e : ℕ) → end_before c' e ≡ end_before c e
  end_kept zero = refl
  end_kept (suc e) = refl

  marked_kept : length own ≡ length c.own → length strikes ≡ length c.strikes
      → ((e : ℕ) → RightOwn c e → RightOwn c' e) → ((e : ℕ) → RightMark c e → RightMark c' e)
      → acceptance c ≡ Ok tt → acceptance c' ≡ Ok tt
  marked_kept o k low lower p =
      let t = (accepted_exactly c).0 p in
      let l = t.level in
      (accepted_exactly c').1 (record {
        few = t.few;
        level = record { own = o ∙ l.own; strikes = k ∙ l.strikes; edges = l.edges; spans = l.spans; tails = l.tails };
        each = λ e h.
            let g = t.each e h in
            let s = g.span in
            record {
              head = g.head;
              own = low e g.own;
              mark = lower e g.mark;
              span = record { from = omega (arith, end_kept e, s.from); short = s.short; within = s.within };
              tail = g.tail;
            };
      })

-- another own figure
module _ (c : Columns) (e w : ℕ) where
  pub own_elsewhere : (x : ℕ) → ¬ (x ≡ e) → own_at (with_own c e w) x ≡ own_at c x
  own_elsewhere x n = get_or-set_other c.own e x w 0 n

  module _ (fits : e < length c.own) where
    pub own_here : own_at (with_own c e w) e ≡ w
    own_here = get_or-set_same c.own e w 0 fits

    pub acceptance_kept : w ≤ greatest → acceptance c ≡ Ok tt → acceptance (with_own c e w) ≡ Ok tt
    acceptance_kept low =
        marked_kept c (set c.own e w) c.strikes (length-set c.own e w) refl (set-low c.own e w greatest fits low) (λ x h. h)

-- another strike mark
module _ (c : Columns) (e s : ℕ) where
  pub strike_elsewhere : (x : ℕ) → ¬ (x ≡ e) → strike_at (with_strike c e s) x ≡ strike_at c x
  strike_elsewhere x n = get_or-set_other c.strikes e x s 0 n

  -- the mark that was, put back
  pub strike_back : with_strike (with_strike c e s) e (strike_at c e) ≡ c
  strike_back =
      ap (λ (xs : List ℕ). columns c.vertices c.heads c.own xs c.spans c.tails)
      (set-set c.strikes e s (strike_at c e) ∙ set-get_or c.strikes e 0)

  module _ (fits : e < length c.strikes) where
    pub strike_here : strike_at (with_strike c e s) e ≡ s
    strike_here = get_or-set_same c.strikes e s 0 fits

    pub strike_kept : s ≤ struck_mark → acceptance c ≡ Ok tt → acceptance (with_strike c e s) ≡ Ok tt
    strike_kept low =
        marked_kept c c.own (set c.strikes e s) refl (length-set c.strikes e s) (λ x h. h) (set-low c.strikes e s struck_mark fits low)
