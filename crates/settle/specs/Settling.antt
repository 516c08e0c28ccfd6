-- Settling a table into the answer columns: the answers of a table, and the outcome of the call. The paper's "The calls". Assumes nothing: these are definitions.
use Rattle.weights.specs.declared.Measure.{Measure}
use Rattle.weights.specs.declared.Entry.{Entry}
use Rattle.weights.specs.Labels.{entry_of}
use Rattle.weights.specs.Measures.{algebra}
use Rattle.std.specs.Prelude.{ℕ, Ok, Err}
use Rattle.columns.specs.Columns.{Answers, Entries, Columns, cell, own_at}
use Rattle.provenance.specs.BestFirst.{labels, best_first}
use Rattle.provenance.specs.Pieces.{piece_column}
use Rattle.tables.specs.Table.{hypergraph}
use Rattle.columns.specs.Acceptance.{lent_acceptance}
use Rattle.columns.specs.Owed.{Outcome}
use Rattle.refusal.specs.Answers.{Acceptance}

-- the answers of a table: the labels that best-first gives its vertices
unfoldable pub answers_of : Measure → Columns → Answers
answers_of m c = best_first (algebra m) (hypergraph c) (own_at c)

-- the entries of a table: its answers, and the piece counts, which the answers tell
unfoldable pub entries_of : Measure → Columns → Entries
entries_of m c = record { labels = answers_of m c; pieces = piece_column (hypergraph c) (labels (answers_of m c)) c.vertices }

-- the entry of part v in four columns
abbrev pub entry_at : Entries → ℕ → Entry
entry_at a v = entry_of (labels a.labels v) (cell a.pieces v)

-- on acceptance the columns are b, on a refusal as they came
abbrev pub outcome : Acceptance → (b a : Entries) → Outcome Acceptance Entries
outcome (Ok _) b a = record { result = Ok tt; left = b }
outcome (Err r) b a = record { result = Err r; left = a }

-- settling, from the columns and answers at entry
unfoldable pub settled : Measure → Columns → Entries → Outcome Acceptance Entries
settled m c a = outcome (lent_acceptance c a) (entries_of m c) a
