-- The calls of the archive `libtozbierdu.a` as a program in C gets them: one number, and the lent columns as they are left. Those of settle, reprice and bill are counter's. The
-- paper's "The calls". Assumes nothing: these are definitions.
use Rattle.std.specs.Prelude.{ℕ, List, [], ◌∷◌, length, eqb, Ok, Err}
use Rattle.weights.specs.declared.Measure as measures
use Rattle.weights.specs.declared.Measure.TheVariants.{Cost, Days, Grade}
use Rattle.weights.specs.declared.State.{State}
use Rattle.weights.specs.declared.State.TheVariants.{Made, Over, Unmade}
use Rattle.weights.specs.declared.Entry.{Entry}
use Rattle.weights.specs.Choice.{pick}
use Rattle.refusal.specs.declared.Counts.{Counts}
use Rattle.refusal.specs.declared.Header.{Header}
use Rattle.refusal.specs.Refusals.{code_of, column_of, result_of, acceptance_result, verdict_result, extent_result, reading_result}
use Rattle.statistics.specs.declared.Moments as moments
use Rattle.statistics.specs.Summaries.{summary_number, summary_values}
use Rattle.columns.specs.Columns.{Entries, Columns}
use Rattle.columns.specs.Owed.{Outcome}
use Rattle.shuffle.specs.Shuffled.{Outcome as ShuffleOutcome}
use Rattle.settle.specs.Checking.{checked}
use Rattle.reprice.specs.Repricing.{MarkOutcome, stricken, restored}
use Rattle.counter.specs.Results.{outcome_result}
use Rattle.topological.specs.Ordering.{settled_in_order}
use Rattle.columns.specs.Longer.{NewLine}
use Rattle.indextable.specs.Index.{IndexOutcome}
use Rattle.append.specs.Appending.{Grown, appended}
use Rattle.inventory.specs.Replaying.{ReplayOutcome, replayed}
use Rattle.readtable.specs.Read.{ReadOutcome}
use Rattle.writetable.specs.Write.{WriteOutcome, write_table}
use Rattle.refusal.specs.Answers.{Acceptance, Appending, Reading, MeasureChoice}
use Rattle.statistics.specs.Samples.{Summary}

-- a measure's number is tested before everything
abbrev pub checked_result : MeasureChoice → Columns → Entries → ℕ
checked_result (Err r) c a = result_of (code_of r)
checked_result (Ok m) c a = verdict_result (checked m c a)

-- a number, the strike marks, and the answer columns
abbrev pub mark_result : MarkOutcome Acceptance → MarkOutcome ℕ
mark_result x = record { result = acceptance_result x.result; strikes = x.strikes; left = x.left }

abbrev pub stricken_result : MeasureChoice → Columns → Entries → ℕ → MarkOutcome ℕ
stricken_result (Err r) c a e = record { result = result_of (code_of r); strikes = c.strikes; left = a }
stricken_result (Ok m) c a e = mark_result (stricken m c a e)

abbrev pub restored_result : MeasureChoice → Columns → Entries → ℕ → MarkOutcome ℕ
restored_result (Err r) c a e = record { result = result_of (code_of r); strikes = c.strikes; left = a }
restored_result (Ok m) c a e = mark_result (restored m c a e)

abbrev pub state_number : State → ℕ
state_number Made = 0
state_number Over = 1
state_number Unmade = 2

-- figure, depth, line and piece count, where four places are lent
abbrev pub entry_written : Entry → List ℕ → List ℕ
entry_written e room = pick (eqb (length room) 4) (e.weight.0 ∷ e.depth ∷ e.edge.0 ∷ e.pieces ∷ []) room

-- what a text said of its table, where four places are lent: n, the measure's number, the lines and the listed parts
abbrev pub measure_number : measures.Measure → ℕ
measure_number Cost = 0
measure_number Days = 1
measure_number Grade = 2

abbrev pub header_written : Header → List ℕ → List ℕ
header_written h room = pick (eqb (length room) 4) (h.vertices ∷ measure_number h.measure ∷ h.edges ∷ h.listed ∷ []) room

-- a number, and all that reading was lent
pub record ReadLeft : Type 0 where
  pub result : ℕ
  pub heads : List ℕ
  pub own : List ℕ
  pub strikes : List ℕ
  pub spans : List ℕ
  pub tails : List ℕ
  pub header : List ℕ

abbrev pub read_left : ℕ → (heads own strikes spans tails header : List ℕ) → ReadLeft
read_left n h o m s t header = record { result = n; heads = h; own = o; strikes = m; spans = s; tails = t; header = header }

abbrev pub reading_header : Reading → List ℕ → List ℕ
reading_header (Ok h) room = header_written h room
reading_header (Err r) room = room

abbrev pub read_result : ReadOutcome → List ℕ → ReadLeft
read_result x room = read_left (reading_result x.answer) x.heads x.own x.strikes x.spans x.tails (reading_header x.answer room)

-- the column of a text that is refused
abbrev pub text_column : Reading → ℕ
text_column (Ok h) = 0
text_column (Err r) = column_of r

abbrev pub write_result : WriteOutcome → Outcome ℕ (List ℕ)
write_result x = record { result = extent_result x.answer; left = x.room }

abbrev pub written_result : MeasureChoice → Columns → List ℕ → Outcome ℕ (List ℕ)
written_result (Err r) c room = record { result = result_of (code_of r); left = room }
written_result (Ok m) c room = write_result (write_table m c room)

-- a number, and the index
pub record LeftIndex : Type 0 where
  pub result : ℕ
  pub index : List ℕ
  pub list : List ℕ

abbrev pub indexed_result : IndexOutcome → LeftIndex
indexed_result o = record { result = extent_result o.result; index = o.index; list = o.list }

-- counts as they are lent, and as they are written where two places are lent
abbrev pub used_counts : (edges listed : ℕ) → Counts
used_counts edges listed = record { edges = edges; listed = listed }

abbrev pub counts_written : Counts → List ℕ → List ℕ
counts_written k room = pick (eqb (length room) 2) (k.edges ∷ k.listed ∷ []) room

-- a number, and all that appending was lent
pub record LeftGrown : Type 0 where
  pub result : ℕ
  pub table : Columns
  pub answers : Entries
  pub index : List ℕ
  pub list : List ℕ
  pub counts : List ℕ

abbrev pub left_grown : ℕ → Columns → Entries → (index list counts : List ℕ) → LeftGrown
left_grown r c a index list counts = record { result = r; table = c; answers = a; index = index; list = list; counts = counts }

abbrev pub appending_result : Appending → ℕ
appending_result (Ok k) = 0
appending_result (Err r) = result_of (code_of r)

abbrev pub appending_counts : Appending → List ℕ → List ℕ
appending_counts (Ok k) room = counts_written k room
appending_counts (Err r) room = room

abbrev pub grown_result : Grown → List ℕ → LeftGrown
grown_result o room = left_grown (appending_result o.result) o.table o.answers o.index o.list (appending_counts o.result room)

abbrev pub appended_result : MeasureChoice → Columns → Counts → Entries → (index list : List ℕ) → NewLine → List ℕ → LeftGrown
appended_result (Err r) c k a index list l room = left_grown (result_of (code_of r)) c a index list room
appended_result (Ok m) c k a index list l room = grown_result (appended m c k a index list l) room

-- the four numbers of an answer, where four places are lent
abbrev pub moments_written : moments.Moments → List ℕ → List ℕ
moments_written m room = pick (eqb (length room) 4) (summary_values (Ok m)) room

abbrev pub summary_written : Summary → List ℕ → List ℕ
summary_written (Ok m) room = moments_written m room
summary_written (Err r) room = room

abbrev pub summary_left : Summary → List ℕ → Outcome ℕ (List ℕ)
summary_left s room = record { result = summary_number s; left = summary_written s room }

-- settling in order: a number, and the answer columns
abbrev pub ordered_result : MeasureChoice → Columns → Entries → Outcome ℕ Entries
ordered_result (Err r) c a = record { result = result_of (code_of r); left = a }
ordered_result (Ok m) c a = outcome_result (settled_in_order m c a)

-- a number, the counts of the shelf and the outcomes
pub record LeftShelf : Type 0 where
  pub result : ℕ
  pub stock : List ℕ
  pub outcomes : List ℕ

abbrev pub replay_result : ReplayOutcome → LeftShelf
replay_result x = record { result = acceptance_result x.result; stock = x.stock; outcomes = x.outcomes }

abbrev pub replayed_result : MeasureChoice → Columns → Entries → (parts received stock outcomes : List ℕ) → LeftShelf
replayed_result (Err r) c a parts received stock outcomes = record { result = result_of (code_of r); stock = stock; outcomes = outcomes }
replayed_result (Ok m) c a parts received stock outcomes = replay_result (replayed m c a parts received stock outcomes)

-- a number, and the column that shuffling or unshuffling writes
abbrev pub laid_result : ShuffleOutcome → Outcome ℕ (List ℕ)
laid_result x = record { result = acceptance_result x.answer; left = x.left }
