-- What reading a text into lent columns returns, and what it leaves in them. The paper's "The text" ("Reading returns n, the measure and the counts, and writes
-- that many places of each column; the rest keep theirs. Spans are written from offset 0 without gaps") and, of "What is turned away", 14, then 15.
-- Assumes nothing: these are definitions.
use Rattle.std.specs.Prelude.{ℕ, ◌*◌, ◌≤◌, ◌≡◌, Bool, false, List, [], length, take, leb, Err}
use Rattle.weights.specs.Choice.{pick}
use Rattle.refusal.specs.declared.Refusal.TheVariants.{TextRoom}
use Rattle.refusal.specs.declared.Header.{Header}
use Rattle.columns.specs.Columns.{Columns, columns}
use Rattle.text.specs.Tables.{Edge, Table, listed_in_all, heads_of, owns_of, marks_of, spans_from, tails_of}
use Rattle.text.specs.Machine.{Parse, Whole, Wrong, parse}
use Rattle.columns.specs.Filled.{filled}
use Rattle.reading.specs.Lines.{header_of, reading_of}
use Rattle.refusal.specs.Answers.{Reading}

-- the answer, and the five columns at exit
pub record ReadOutcome : Type 0 where
  pub answer : Reading
  pub heads : List ℕ
  pub own : List ℕ
  pub strikes : List ℕ
  pub spans : List ℕ
  pub tails : List ℕ

abbrev pub read_outcome : Reading → (heads own strikes spans tails : List ℕ) → ReadOutcome
read_outcome r h o m s t = record { answer = r; heads = h; own = o; strikes = m; spans = s; tails = t }

-- the columns that a reading gave back: as many places of each as it said
abbrev pub columns_read : Header → ReadOutcome → Columns
columns_read g r =
    columns g.vertices (take g.edges r.heads) (take g.edges r.own) (take g.edges r.strikes)
    (take (2 * g.edges) r.spans) (take g.listed r.tails)

-- columns of these lengths have room for the table
unfoldable pub room_for : Header → (heads own strikes spans tails : ℕ) → Bool
room_for header heads own strikes spans tails =
    pick (leb header.edges heads)
    (pick (leb header.edges own)
    (pick (leb header.edges strikes)
    (pick (leb (2 * header.edges) spans)
    (leb header.listed tails)
    false) false) false) false

-- by what the text holds: 14 with line and column; 15; or the table, its columns filled from their start
unfoldable pub read_into : (text : List ℕ) → Parse → (heads own strikes spans tails : List ℕ) → ReadOutcome
read_into text (Wrong l) h o m s t = read_outcome (reading_of text (Wrong l)) h o m s t
read_into text (Whole u) h o m s t =
    pick (room_for (header_of u) (length h) (length o) (length m) (length s) (length t))
    (read_outcome (reading_of text (Whole u)) (filled (heads_of u.edges) h) (filled (owns_of u.edges) o) (filled (marks_of u.edges) m)
    (filled (spans_from 0 u.edges) s) (filled (tails_of u.edges) t))
    (read_outcome (Err TextRoom) h o m s t)

abbrev pub read_table : (text heads own strikes spans tails : List ℕ) → ReadOutcome
read_table text h o m s t = read_into text (parse text) h o m s t

-- Filling --------------------------------------------------------------------------------------------------------------------------------------

abbrev pub edges_in : Parse → List Edge
edges_in (Whole u) = u.edges
edges_in (Wrong l) = []

-- the text is that of a table for which columns of these lengths have room
pub record Roomy (text : List ℕ) (h o m s t : ℕ) : Type 0 where
  pub table : Table
  pub whole : parse text ≡ Whole table
  pub heads : length table.edges ≤ h
  pub own : length table.edges ≤ o
  pub strikes : length table.edges ≤ m
  pub spans : 2 * length table.edges ≤ s
  pub tails : listed_in_all table.edges ≤ t

-- the columns, from what stood in them, are filled with those of the hyperedges
pub record Fills (es : List Edge) (h₀ o₀ m₀ s₀ t₀ h o m s t : List ℕ) : Type 0 where
  pub heads : h ≡ filled (heads_of es) h₀
  pub own : o ≡ filled (owns_of es) o₀
  pub strikes : m ≡ filled (marks_of es) m₀
  pub spans : s ≡ filled (spans_from 0 es) s₀
  pub tails : t ≡ filled (tails_of es) t₀
