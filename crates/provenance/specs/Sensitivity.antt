-- Sensitivity: what becomes of the labels where own figures change. The same parts are unmade. In cost each part within the ceiling keeps to the bounds that its two
-- bills set, the sums over all lines of figure × count, and so changes by no less than the lines' changes come to in its new bill and no more than in its old; for one
-- line raised by d, it rises by at least d × its count in the new bill and at most d × its count in the old. In days it rises by 0 to d, since a line stands at most once
-- on a downward path, and in grade, since the least of some figures does. The paper's demand 3 and document 02, 2026-11. Assumes nothing: these are definitions.
use Rattle.std.specs.Prelude.{◌≡◌, List, ℕ, ◌+◌, ◌*◌, ◌≤◌, ◌≤ℤ◌}
use Rattle.std.proofs.Math.IntN.{sub_ℕ}
use Rattle.weights.specs.declared.Label.{Label}
use Rattle.weights.specs.Figures.{ceiling}
use Rattle.provenance.specs.Labelling.{Made}
use Rattle.provenance.specs.Counting.{charge, bill_change}

-- the state made: within the ceiling
pub record MadeWithin (l : Label) : Type 0 where
  pub made : Made l
  pub low : l.weight.0 ≤ ceiling

-- the bounds that an old and a new bill set a part of n lines, between two tables of figures
pub record Exchange (own own' : ℕ → ℕ) (n : ℕ) (w w' : ℕ) (bill bill' : List ℕ) : Type 0 where
  pub old : w ≡ charge own n bill
  pub new : w' ≡ charge own' n bill'
  pub least : w ≤ charge own n bill'
  pub most : w' ≤ charge own' n bill

-- document 02, 2026-11: the change in cost, from w to w', "new less old, it may be negative", where any figures changed: "at least the sum, over all lines, of the line's
-- change times its count in the new bill, and at most the same sum with the old bill"
pub record CostChange (own own' : ℕ → ℕ) (n : ℕ) (w w' : ℕ) (bill bill' : List ℕ) : Type 0 where
  pub least : bill_change own own' n bill' ≤ℤ sub_ℕ w' w
  pub most : sub_ℕ w' w ≤ℤ bill_change own own' n bill

-- the rise in cost, from w to w', where one line was raised by d
pub record CostRise (d w w' : ℕ) (old new : ℕ) : Type 0 where
  pub least : w + d * new ≤ w'
  pub most : w' ≤ w + d * old

-- the rise in days, and in grade
pub record DaysRise (d w w' : ℕ) : Type 0 where
  pub least : w ≤ w'
  pub most : w' ≤ w + d
