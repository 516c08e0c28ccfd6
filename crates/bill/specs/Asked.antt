-- When a bill is printed, and by what the call is refused. The paper's "Print a bill" and, of "What is turned away", "1 to 6 …; then 7, … 11, 8, 12, 13". Assumes
-- nothing: these are definitions.
use Rattle.std.specs.Prelude.{List, ◌++◌, ℕ, ◌≤◌, ◌<◌, length, drop, Ok, Err}
use Rattle.weights.specs.declared.Measure.{Measure}
use Rattle.refusal.specs.declared.Refusal.{Refusal}
use Rattle.refusal.specs.declared.Refusal.TheVariants.{NoSuchVertex, WrongAnswers, Underivable, BillRoom}
use Rattle.provenance.specs.Hypergraph.{Derivation}
use Rattle.columns.specs.Columns.{Entries, Columns}
use Rattle.tables.specs.Table.{hypergraph}
use Rattle.columns.specs.Owed.{Outcome, Owed}
use Rattle.columns.specs.Right.{RightLent, WrongLent}
use Rattle.settle.specs.Defined.{AllMean}
use Rattle.bill.specs.Billing.{bill_of}
use Rattle.refusal.specs.Answers.{Extent}

-- v is a part, it has a make-up, the answers are the table's, and the room holds the bill
pub record RightBill (m : Measure) (c : Columns) (a : Entries) (v places : ℕ) : Type 0 where
  pub lent : RightLent c a
  pub part : v < c.vertices
  pub answers : AllMean m c a
  pub made : Derivation (hypergraph c) v
  pub room : length (bill_of c a.labels v) ≤ places

pub data WrongBill (m : Measure) (c : Columns) (a : Entries) (v places : ℕ) : Refusal → Type 0 where
  lent : {r : Refusal} → WrongLent c a r → WrongBill m c a v places r
  part : RightLent c a → ¬ (v < c.vertices) → WrongBill m c a v places NoSuchVertex
  answers : RightLent c a → v < c.vertices → ¬ AllMean m c a → WrongBill m c a v places WrongAnswers
  unmade : RightLent c a → v < c.vertices → AllMean m c a → ¬ Derivation (hypergraph c) v → WrongBill m c a v places Underivable
  room : RightLent c a → v < c.vertices → AllMean m c a → Derivation (hypergraph c) v → ¬ (length (bill_of c a.labels v) ≤ places) → WrongBill m c a v places BillRoom

-- demand 1 of a bill of v that had this outcome: "A bill returns its length; the room behind it keeps its bytes"
abbrev pub BillOwes : Measure → Columns → Entries → (v : ℕ) (entry : List ℕ) → Outcome Extent (List ℕ) → Type 0
BillOwes m c a v entry o =
    let es = bill_of c a.labels v in
    let n = length entry in
    Owed Err entry (RightBill m c a v n) (λ _. Ok (length es)) (λ _. es ++ drop (length es) entry) (WrongBill m c a v n) o.result o.left
