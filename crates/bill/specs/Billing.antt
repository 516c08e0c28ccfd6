-- Printing a bill: the bill of a part, the refusals of the call in the paper's order, and its outcome. The paper's "The calls" and "What is turned away".
-- Assumes nothing: these are definitions.
use Rattle.std.specs.Prelude.{List, ◌++◌, ℕ, length, drop, ltb, leb, Ok, Err}
use Rattle.weights.specs.declared.Measure.{Measure}
use Rattle.refusal.specs.declared.Refusal.TheVariants.{NoSuchVertex, WrongAnswers, Underivable, BillRoom}
use Rattle.columns.specs.Columns.{Answers, Entries, Columns}
use Rattle.provenance.specs.BestFirst.{labels}
use Rattle.provenance.specs.Support.{bill}
use Rattle.tables.specs.Table.{hypergraph}
use Rattle.columns.specs.Acceptance.{test, and_then, lent_acceptance}
use Rattle.columns.specs.Owed.{Outcome}
use Rattle.columns.specs.Same.{same_entries}
use Rattle.settle.specs.Settling.{entries_of}
use Rattle.refusal.specs.Answers.{Acceptance, Extent}

-- the bill of part v: the lines of its chosen make-up, as the answers tell it
unfoldable pub bill_of : Columns → Answers → (v : ℕ) → List ℕ
bill_of c a v = bill (hypergraph c) (labels a) (labels a v).depth v

-- the table, the answers and the part: 1 to 7 and 21, then 11, 8 and 12
unfoldable pub part_acceptance : Measure → Columns → Entries → (v : ℕ) → Acceptance
part_acceptance m c a v =
    and_then (lent_acceptance c a)
    (test (ltb v c.vertices) NoSuchVertex
    (test (same_entries a (entries_of m c)) WrongAnswers
    (test (ltb 0 (labels a.labels v).depth) Underivable
    (Ok tt))))

-- 13: a bill longer than the room
abbrev pub room_acceptance : (bill : List ℕ) → (places : ℕ) → Acceptance
room_acceptance bill places = test (leb (length bill) places) BillRoom (Ok tt)

-- 1 to 7 and 21, 11, 8 and 12, then 13
unfoldable pub bill_acceptance : Measure → Columns → Entries → (v places : ℕ) → Acceptance
bill_acceptance m c a v places = and_then (part_acceptance m c a v) (room_acceptance (bill_of c a.labels v) places)

-- on acceptance the bill's length, and the bill with the room's old content behind it; on a refusal the room as it came
abbrev pub outcome : Acceptance → (bill room : List ℕ) → Outcome Extent (List ℕ)
outcome (Ok _) bill room = record { result = Ok (length bill); left = bill ++ drop (length bill) room }
outcome (Err r) bill room = record { result = Err r; left = room }

-- printing a bill into the room at entry
abbrev pub printed : (bill room : List ℕ) → Outcome Extent (List ℕ)
printed bill room = outcome (room_acceptance bill (length room)) bill room

-- printing the bill of v, from the columns, the answers and the room at entry
unfoldable pub billed : Measure → Columns → Entries → (v : ℕ) → List ℕ → Outcome Extent (List ℕ)
billed m c a v room = outcome (bill_acceptance m c a v (length room)) (bill_of c a.labels v) room
