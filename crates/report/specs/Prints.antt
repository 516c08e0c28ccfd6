-- What the listing program prints of an input, in three cases; and a table that was written and read back. The paper's "A table priced whole" and, of "What is turned
-- away", "The program: 17 first"; demand 2's "The table's text is read and written back with the same meaning". Assumes nothing: these are definitions.
use Rattle.std.specs.Prelude.{◌≡◌, List, ℕ, ◌≤◌, ◌<◌, length, Ok}
use Rattle.weights.specs.declared.Measure.{Measure}
use Rattle.refusal.specs.declared.Refusal.TheVariants.{Text, InputLength}
use Rattle.columns.specs.Columns.{Columns}
use Rattle.settle.specs.Settling.{entries_of}
use Rattle.text.specs.Tables.{closed}
use Rattle.text.specs.Render.{Permitted}
use Rattle.text.specs.Permitted.{FirstWrong}
use Rattle.text.specs.Bytes.{FirstByte}
use Rattle.readtable.specs.Read.{ReadOutcome, columns_read}
use Rattle.roundtrip.specs.RoundTrip.{header_for}
use Rattle.report.specs.Report.{most_input, list, refused_line}

-- 17 for an input that is too long; the list of the answers of the table that a permitted text is of; 14 at the first
-- line that breaks a rule and the first byte that can't stand where it stands
pub data Prints (input : List ℕ) : List ℕ → Type 0 where
  long : most_input < length input → Prints input (refused_line InputLength)
  listed : length input ≤ most_input → (p : Permitted input) → Prints input (list (entries_of p.measure p.table) p.table.vertices)
  wrong : length input ≤ most_input → ¬ Permitted input → (k c : ℕ) → FirstWrong input k → FirstByte input k c
      → Prints input (refused_line (Text (record { 0 = k }) (record { 0 = c })))

-- what was read is the table with its gaps closed, with the same measure, and has the same answers
pub record ReadsBack (m : Measure) (c : Columns) (back : ReadOutcome) : Type 0 where
  pub told : back.answer ≡ Ok (header_for m (closed c))
  pub table : columns_read (header_for m (closed c)) back ≡ closed c
  pub answers : entries_of m (columns_read (header_for m (closed c)) back) ≡ entries_of m c
