-- What is said of two tables: of a second text that is of an accepted table, the parts whose state or figure differ; of any other, its refusal. Either fits the
-- room of a reply. Assumes nothing: these are definitions.
use Rattle.std.specs.Prelude.{◌≡◌, List, [], ℕ, max, ◌^◌, ◌≤◌, ◌<◌, length}
use Rattle.weights.specs.declared.Measure.{Measure}
use Rattle.weights.specs.declared.State.TheVariants.{Unmade}
use Rattle.weights.specs.declared.Entry.{Entry}
use Rattle.refusal.specs.declared.Refusal.TheVariants.{Text, InputLength}
use Rattle.columns.specs.Columns.{Entries, Columns}
use Rattle.columns.specs.Acceptance.{most_vertices}
use Rattle.settle.specs.Settling.{entries_of, entry_at}
use Rattle.text.specs.Render.{Permitted}
use Rattle.text.specs.Permitted.{FirstWrong}
use Rattle.text.specs.Bytes.{FirstByte}
use Rattle.report.specs.Report.{most_input}
use Rattle.reply.specs.Reply.{most_reply, answered, second_refused}
use Rattle.compare.specs.Compare.{row_if, differences, compared_said}

-- there is no row exactly if state and figure are the same
pub record RowExactly (v : ℕ) (x y : Entry) : Type 0 where
  pub alike : row_if v x y ≡ [] → (x.state ≡ y.state) × (x.weight ≡ y.weight)
  pub silent : x.state ≡ y.state → x.weight ≡ y.weight → row_if v x y ≡ []

-- a part that a table does not have is unmade in it, with figure 0
abbrev pub Absent : Measure → Columns → Type 0
Absent m c = (v : ℕ) → c.vertices ≤ v → ((entry_at (entries_of m c) v).state ≡ Unmade) × ((entry_at (entries_of m c) v).weight.0 ≡ 0)

-- of the text of an accepted table
pub record Compared (m m' : Measure) (c c' : Columns) (second : List ℕ) : Type 0 where
  pub printed : compared_said c.vertices (entries_of m c) second ≡ answered (differences (entries_of m c) (entries_of m' c') (max c.vertices c'.vertices))
  pub row_iff : (v : ℕ) → v < max c.vertices c'.vertices → RowExactly v (entry_at (entries_of m c) v) (entry_at (entries_of m' c') v)
  pub first_absent : Absent m c
  pub second_absent : Absent m' c'

-- of any text
pub record ComparedAny (n : ℕ) (a : Entries) (second : List ℕ) : Type 0 where
  pub long : most_input < length second → compared_said n a second ≡ second_refused InputLength
  pub wrong : length second ≤ most_input → ¬ Permitted second
      → (k c : ℕ) × (compared_said n a second ≡ second_refused (Text (record { 0 = k }) (record { 0 = c }))) × FirstWrong second k × FirstByte second k c
  pub fits : n ≤ most_vertices → ((v : ℕ) → (entry_at a v).weight.0 < 2 ^ 64) → length (compared_said n a second).bytes ≤ most_reply
