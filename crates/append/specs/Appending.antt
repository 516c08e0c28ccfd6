-- Appending a line: its refusals in their order, and what it returns and leaves. Document 02, 2026-01 and 2026-02. Assumes nothing: these are definitions.
use Rattle.std.specs.Prelude.{List, ℕ, ◌+◌, ◌*◌, length, ltb, leb, eqb, Ok, Err}
use Rattle.weights.specs.declared.Hyperedge.{Hyperedge}
use Rattle.weights.specs.declared.Measure.{Measure}
use Rattle.weights.specs.Figures.{greatest, struck_mark}
use Rattle.refusal.specs.declared.Refusal.TheVariants.{TooManyVertices, Lengths, Head, Own, Span, Tail, AnswerLength, ColumnRoom, WrongIndex, StrikeMark}
use Rattle.refusal.specs.declared.Counts.{Counts}
use Rattle.columns.specs.Columns.{Entries, Columns, columns}
use Rattle.columns.specs.Acceptance.{most_vertices, most_edges, most_listed, longest_tail, test, and_then, all_below, acceptance}
use Rattle.columns.specs.Filled.{filled}
use Rattle.columns.specs.Longer.{NewLine, end_in, longer, in_use_of}
use Rattle.settle.specs.Settling.{entries_of}
use Rattle.settle.specs.Checking.{answers_acceptance}
use Rattle.indextable.specs.Index.{index_of, is_index, index_room}
use Rattle.refusal.specs.Answers.{Acceptance, Appending}

-- where the span of the new line begins: the end of the last span in use
abbrev pub new_end : Columns → Counts → ℕ
new_end c k = end_in c.spans k.edges

-- 1; 2: a count in use passes its column, or the longer table, whose line lists so many parts, would pass a limit
unfoldable pub counts_acceptance : Columns → Counts → (size : ℕ) → Acceptance
counts_acceptance c k size =
    test (leb c.vertices most_vertices) TooManyVertices
    (test (leb k.edges (length c.heads)) Lengths
    (test (leb k.edges (length c.own)) Lengths
    (test (leb k.edges (length c.strikes)) Lengths
    (test (ltb k.edges most_edges) Lengths
    (test (leb (2 * k.edges) (length c.spans)) Lengths
    (test (leb k.listed (length c.tails)) Lengths
    (test (leb k.listed most_listed) Lengths
    (test (leb (new_end c k + size) most_listed) Lengths
    (Ok tt)))))))))

-- 3, 4, 21, 5 and 6 of the new line, by its new number; "5 for a new line means only a list above 16"
unfoldable pub new_line_acceptance : (n : ℕ) → Hyperedge → NewLine → Acceptance
new_line_acceptance n e l =
    test (ltb l.head n) (Head e)
    (test (leb l.own greatest) (Own e)
    (test (leb l.mark struck_mark) (StrikeMark e)
    (test (leb (length l.tail) longest_tail) (Span e)
    (test (all_below n l.tail) (Tail e)
    (Ok tt)))))

-- 7
unfoldable pub sized_acceptance : ℕ → Entries → Acceptance
sized_acceptance n a =
    test (eqb (length a.labels.weights) n) AnswerLength
    (test (eqb (length a.labels.depths) n) AnswerLength
    (test (eqb (length a.labels.edges) n) AnswerLength
    (test (eqb (length a.pieces) n) AnswerLength
    (Ok tt))))

-- 18, of the columns of the table: places for the new line and its needed parts
unfoldable pub room_acceptance : (heads own strikes spans tails : List ℕ) → (m size : ℕ) → Acceptance
room_acceptance heads own strikes spans tails m size =
    test (ltb m (length heads)) ColumnRoom
    (test (ltb m (length own)) ColumnRoom
    (test (ltb m (length strikes)) ColumnRoom
    (test (leb (2 * m + 2) (length spans)) ColumnRoom
    (test (leb (end_in spans m + size) (length tails)) ColumnRoom
    (Ok tt)))))

-- the order: 1, 2, the lines that stand, the new line, 7, 18, 19, 8. The list must have room for that of the longer table; index and answers are those of the table in use
unfoldable pub append_acceptance : Measure → Columns → Counts → Entries → (index list : List ℕ) → NewLine → Acceptance
append_acceptance m c k a index list l =
    and_then (counts_acceptance c k (length l.tail))
    (and_then (acceptance (in_use_of c k))
    (and_then (new_line_acceptance c.vertices (record { 0 = k.edges }) l)
    (and_then (sized_acceptance c.vertices a)
    (and_then (room_acceptance c.heads c.own c.strikes c.spans c.tails k.edges (length l.tail))
    (and_then (index_room c.vertices (length (index_of (longer (in_use_of c k) l)).list) index list)
    (test (is_index (in_use_of c k) index list) WrongIndex
    (answers_acceptance m (in_use_of c k) a)))))))

-- its first three steps, and its first five
unfoldable pub lines_acceptance : Columns → Counts → NewLine → Acceptance
lines_acceptance c k l =
    and_then (counts_acceptance c k (length l.tail))
    (and_then (acceptance (in_use_of c k))
    (new_line_acceptance c.vertices (record { 0 = k.edges }) l))

unfoldable pub columns_acceptance : Columns → Counts → Entries → NewLine → Acceptance
columns_acceptance c k a l =
    and_then (lines_acceptance c k l)
    (and_then (sized_acceptance c.vertices a)
    (room_acceptance c.heads c.own c.strikes c.spans c.tails k.edges (length l.tail)))

-- what appending returns, and every column as it leaves it
pub record Grown : Type 0 where
  pub result : Appending
  pub table : Columns
  pub answers : Entries
  pub index : List ℕ
  pub list : List ℕ

abbrev pub leaves : Appending → Columns → Entries → (index list : List ℕ) → Grown
leaves r c a index list = record { result = r; table = c; answers = a; index = index; list = list }

-- the new counts
abbrev pub new_counts : Columns → Counts → NewLine → Counts
new_counts c k l = record { edges = k.edges + 1; listed = new_end c k + length l.tail }

-- the columns of c begin with those of t; what stands behind stays
abbrev pub over : (t c : Columns) → Columns
over t c =
    columns c.vertices (filled t.heads c.heads) (filled t.own c.own) (filled t.strikes c.strikes)
    (filled t.spans c.spans) (filled t.tails c.tails)

-- on acceptance table, index and answers are those of the longer table, at the start of their columns; on a refusal nothing has changed
abbrev pub grown : Measure → Columns → Counts → Entries → (index list : List ℕ) → NewLine → Acceptance → Grown
grown m c k a index list l (Ok _) =
    let t = longer (in_use_of c k) l in
    leaves (Ok (new_counts c k l)) (over t c) (entries_of m t) (filled (index_of t).pairs index) (filled (index_of t).list list)
grown m c k a index list l (Err r) = leaves (Err r) c a index list

unfoldable pub appended : Measure → Columns → Counts → Entries → (index list : List ℕ) → NewLine → Grown
appended m c k a index list l = grown m c k a index list l (append_acceptance m c k a index list l)
