-- A bill as rows to quote from: a row for each line of the bill, and last a row with the part's figure. Assumes nothing: these are definitions.
use Rattle.std.specs.Prelude.{ℕ, List, [], ◌∷◌, ◌++◌, replicate, take}
use Rattle.weights.specs.declared.Measure.{Measure}
use Rattle.weights.specs.declared.State.{State}
use Rattle.weights.specs.declared.Entry.{Entry}
use Rattle.columns.specs.Columns.{Entries, Columns, head_at, own_at}
use Rattle.columns.specs.Owed.{Outcome}
use Rattle.settle.specs.Settling.{entry_at}
use Rattle.bill.specs.Billing.{billed}
use Rattle.text.specs.Render.{digits}
use Rattle.report.specs.Report.{state_word}
use Rattle.reply.specs.Reply.{Said, answered, on_extent}
use Rattle.refusal.specs.Answers.{Extent}

-- the most lines of a bill that is printed; a longer one is refused by 13
abbrev pub most_lines : ℕ
most_lines = 16384

-- bounds on the bytes of a row and of the last one: three numbers of 20 digits; two, and a state's word
abbrev pub most_row : ℕ
most_row = 63

abbrev pub most_last : ℕ
most_last = 49

-- "line, its part, its own figure"
unfoldable pub row : Columns → ℕ → List ℕ
row c e = digits e ++ (32 ∷ digits (head_at c e)) ++ (32 ∷ digits (own_at c e)) ++ 10 ∷ []

-- those of a list of lines, one behind the other
unfoldable pub rows : Columns → List ℕ → List ℕ
rows c [] = []
rows c (e ∷ es) = row c e ++ rows c es

-- "last a row with the part's figure, to quote from": part, state, figure
unfoldable pub last_row : ℕ → State → (figure : ℕ) → List ℕ
last_row v s w = digits v ++ (32 ∷ state_word s) ++ (32 ∷ digits w) ++ 10 ∷ []

abbrev pub last : ℕ → Entry → List ℕ
last v x = last_row v x.state x.weight.0

unfoldable pub sheet : Columns → Entries → (v : ℕ) → List ℕ → List ℕ
sheet c a v es = rows c es ++ last v (entry_at a v)

-- by what printing the bill returned, and the room as it left it
abbrev pub said_of : Columns → Entries → (v : ℕ) → Outcome Extent (List ℕ) → Said
said_of c a v o = on_extent o.result (λ k. answered (sheet c a v (take k o.left)))

unfoldable pub bill_said : Measure → Columns → Entries → (v : ℕ) → Said
bill_said m c a v = said_of c a v (billed m c a v (replicate most_lines 0))
