-- Demand 3 with the counts taken in the bills that the call prints, and no tree in it: "How often a line stands in a part's bill is counted in the part's chosen
-- make-up, whether or not any room would hold that bill". Assumes nothing: these are definitions.
use Rattle.std.specs.Prelude.{◌≡◌, ℕ, length}
use Rattle.weights.specs.declared.Measure.{Measure}
use Rattle.weights.specs.declared.Measure.TheVariants.{Cost}
use Rattle.weights.specs.declared.State.TheVariants.{Made}
use Rattle.provenance.specs.Counting.{count}
use Rattle.provenance.specs.Sensitivity.{CostChange}
use Rattle.columns.specs.Columns.{Columns, own_at}
use Rattle.settle.specs.Settling.{answers_of}
use Rattle.reprice.specs.Demand3.{labels_of, state_in, Rise, Carries}
use Rattle.bill.specs.Billing.{bill_of}

-- how often line e stands in the bill of part v
abbrev pub count_in : Measure → Columns → (e v : ℕ) → ℕ
count_in m c e v = count e (bill_of c (answers_of m c) v)

pub record Demand3Billed (m : Measure) (c c' : Columns) (e d : ℕ) : Type 0 where
  pub carries : Carries m c c' e
  pub rises : (v : ℕ) → state_in m c v ≡ Made → state_in m c' v ≡ Made → Rise m d (labels_of m c v).weight.0 (labels_of m c' v).weight.0 (count_in m c e v) (count_in m c' e v)

-- the bound of a price letter (document 02, 2026-11) with the bills as they are printed
pub record RevisionBilled (c c' : Columns) : Type 0 where
  pub changes : (v : ℕ) → state_in Cost c v ≡ Made → state_in Cost c' v ≡ Made →
      let bill = bill_of c (answers_of Cost c) v in
      let bill' = bill_of c' (answers_of Cost c') v in
      CostChange (own_at c) (own_at c') (length c.heads) (labels_of Cost c v).weight.0 (labels_of Cost c' v).weight.0 bill bill'
