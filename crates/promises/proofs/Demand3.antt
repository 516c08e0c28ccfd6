-- Demand 3. "One statement about every such pair of tables and all their parts": two accepted tables that agree in n, in the measure and in all columns but one own figure,
-- raised by d on a line that is unstruck in both. `c` is the old table, "the one where it is lower", and `c'` the new one. Assumes nothing.
use mathlib.Core.Path.{◌≡◌}
use mathlib.Core.Logic.{◌↔◌}
use Prim.Native.Nat.{ℕ, ◌+◌, ◌*◌, ◌≤◌}
use Rattle.weights.specs.declared.Measure.{Measure}
use Rattle.weights.specs.declared.Measure.TheVariants.{Cost, Days, Grade}
use Rattle.weights.specs.declared.State.TheVariants.{Made, Unmade}
use Rattle.columns.specs.Columns.{Entries, Columns, own_at}
use Rattle.settle.specs.Settling.{settled}
use Rattle.reprice.specs.Repricing.{repriced}
use Rattle.reprice.specs.Demand3.{state_in, Pair, Demand3}
use Rattle.reprice.proofs.Demand3.{demand_3}
use Rattle.bill.specs.Rises.{count_in, Demand3Billed}
use Rattle.bill.proofs.Rises.{demand_3_billed}
use Rattle.promises.specs.Figures.{figure_in}
use Rattle.std.specs.Prelude.{Ok}

-- whole, with the counts taken in chosen make-ups, and in bills as they are printed
pub of_make_ups : (m : Measure) (c c' : Columns) (e d : ℕ) → Pair c c' e d → Demand3 m c c' e d
of_make_ups = demand_3

pub of_bills : (m : Measure) (c c' : Columns) (e d : ℕ) → Pair c c' e d → Demand3Billed m c c' e d
of_bills = demand_3_billed

-- Sentence by sentence -----------------------------------------------------------------------------------------------------------------------------------------------

module _ (c c' : Columns) (e d : ℕ) (p : Pair c c' e d) where
  -- repricing the line carries the answers of either table to the other's
  module _ (m : Measure) (a a' : Entries) (h : (settled m c a).result ≡ Ok tt) (h' : (settled m c' a').result ≡ Ok tt) where
    pub up : repriced m c (settled m c a).left e (own_at c' e) ≡ record { result = Ok tt; own = c'.own; left = (settled m c' a').left }
    up = (demand_3 m c c' e d p).carries.up a a' h h'

    pub down : repriced m c' (settled m c' a').left e (own_at c e) ≡ record { result = Ok tt; own = c.own; left = (settled m c a).left }
    down = (demand_3 m c c' e d p).carries.down a a' h h'

  -- exactly the same parts are unmade
  pub same_unmade : (m : Measure) (v : ℕ) → (state_in m c v ≡ Unmade) ↔ (state_in m c' v ≡ Unmade)
  same_unmade m v = (demand_3 m c c' e d p).carries.unmade v

  -- in cost, a part "made and within the ceiling" in both rises by at least d times the line's count in its new bill and at most d times that in its old bill; "this count
  -- and d times it are plain numbers without a ceiling"
  pub cost_rises : (v : ℕ) → state_in Cost c v ≡ Made → state_in Cost c' v ≡ Made
      → (figure_in Cost c v + d * count_in Cost c' e v ≤ figure_in Cost c' v) × (figure_in Cost c' v ≤ figure_in Cost c v + d * count_in Cost c e v)
  cost_rises v s s' = let r = (demand_3_billed Cost c c' e d p).rises v s s' in (r.least, r.most)

  -- in days by 0 to d
  pub days_rises : (v : ℕ) → state_in Days c v ≡ Made → state_in Days c' v ≡ Made
      → (figure_in Days c v ≤ figure_in Days c' v) × (figure_in Days c' v ≤ figure_in Days c v + d)
  days_rises v s s' = let r = (demand_3_billed Days c c' e d p).rises v s s' in (r.least, r.most)

  -- and in grade
  pub grade_rises : (v : ℕ) → state_in Grade c v ≡ Made → state_in Grade c' v ≡ Made
      → (figure_in Grade c v ≤ figure_in Grade c' v) × (figure_in Grade c' v ≤ figure_in Grade c v + d)
  grade_rises v s s' = let r = (demand_3_billed Grade c c' e d p).rises v s s' in (r.least, r.most)
