-- What is said of a bill: where it is printed, its own lines and the part's figure; where it is refused, the line of the refusal; either fits the room of a reply.
-- Assumes nothing: these are definitions.
use Rattle.std.specs.Prelude.{◌≡◌, ℕ, ◌≤◌, length}
use Rattle.weights.specs.declared.Measure.{Measure}
use Rattle.refusal.specs.declared.Refusal.{Refusal}
use Rattle.columns.specs.Columns.{Entries, Columns}
use Rattle.bill.specs.Billing.{bill_of}
use Rattle.bill.specs.Asked.{RightBill, WrongBill}
use Rattle.reply.specs.Reply.{most_reply, answered, refused_by}
use Rattle.quote.specs.Quote.{most_lines, sheet, bill_said}

pub record Quoted (m : Measure) (c : Columns) (a : Entries) (v : ℕ) : Type 0 where
  pub printed : RightBill m c a v most_lines → bill_said m c a v ≡ answered (sheet c a v (bill_of c a.labels v))
  pub refused : (r : Refusal) → WrongBill m c a v most_lines r → bill_said m c a v ≡ refused_by r
  pub fits : length (bill_said m c a v).bytes ≤ most_reply
