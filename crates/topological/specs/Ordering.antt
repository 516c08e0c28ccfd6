-- Tables in topological order (document 02, 2026-08): which are accepted, "24 for a line that lists its head or a higher part, after 6 in that line, with the line as
-- place"; and the outcome of settling one by a walk up the part numbers. Assumes nothing: these are definitions.
use Rattle.std.specs.Prelude.{List, ℕ, zero, suc, ◌+◌, length, eqb, Ok}
use Rattle.weights.specs.declared.Hyperedge.{Hyperedge}
use Rattle.weights.specs.declared.Measure.{Measure}
use Rattle.weights.specs.Measures.{algebra}
use Rattle.refusal.specs.declared.Refusal.TheVariants.{AnswerLength, Order}
use Rattle.columns.specs.Columns.{Answers, Entries, Columns, head_at, own_at, strike_at, offset_at, length_at, part}
use Rattle.columns.specs.Acceptance.{test, and_then, all_below, edge_acceptance, sizes_acceptance}
use Rattle.provenance.specs.BestFirst.{labels}
use Rattle.provenance.specs.InOrder.{in_order}
use Rattle.provenance.specs.Pieces.{piece_column}
use Rattle.tables.specs.Table.{hypergraph}
use Rattle.columns.specs.Owed.{Outcome}
use Rattle.settle.specs.Settling.{outcome}
use Rattle.refusal.specs.Answers.{Acceptance}

-- refusals 3, 4, 21, 5 and 6 of one line, then 24: its listed parts must be below its head, struck or not
unfoldable pub ordered_edge : (n : ℕ) → Hyperedge → (head own mark offset size end : ℕ) → List ℕ → Acceptance
ordered_edge n e head own mark offset size end tails =
    and_then (edge_acceptance n e head own mark offset size end tails) (test (all_below head (part offset size tails)) (Order e) (Ok tt))

abbrev pub ordered_edge_at : Columns → (e end : ℕ) → Acceptance
ordered_edge_at c e end = ordered_edge c.vertices (record { 0 = e }) (head_at c e) (own_at c e) (strike_at c e) (offset_at c e) (length_at c e) end c.tails

-- the first refusal of the `left` lines from e on
unfoldable pub ordered_edges_acceptance : Columns → (left e end : ℕ) → Acceptance
ordered_edges_acceptance c zero e end = Ok tt
ordered_edges_acceptance c (suc left) e end = and_then (ordered_edge_at c e end) (ordered_edges_acceptance c left (e + 1) (offset_at c e + length_at c e))

-- 1, 2, then line by line
unfoldable pub ordered_acceptance : Columns → Acceptance
ordered_acceptance c = and_then (sizes_acceptance c) (ordered_edges_acceptance c (length c.heads) 0 0)

-- the same with four answer columns, each exactly n long: then 7
unfoldable pub ordered_lent_acceptance : Columns → Entries → Acceptance
ordered_lent_acceptance c a =
    and_then (ordered_acceptance c)
    (test (eqb (length a.labels.weights) c.vertices) AnswerLength
    (test (eqb (length a.labels.depths) c.vertices) AnswerLength
    (test (eqb (length a.labels.edges) c.vertices) AnswerLength
    (test (eqb (length a.pieces) c.vertices) AnswerLength
    (Ok tt)))))

-- the answers of the walk, and with them the piece counts, which they tell (document 02, 2026-09)
abbrev pub walked : Measure → Columns → Answers
walked m c = in_order (algebra m) (hypergraph c) (own_at c)

abbrev pub walked_entries : Measure → Columns → Entries
walked_entries m c = record { labels = walked m c; pieces = piece_column (hypergraph c) (labels (walked m c)) c.vertices }

-- settling, from the columns and answers at entry
unfoldable pub settled_in_order : Measure → Columns → Entries → Outcome Acceptance Entries
settled_in_order m c a = outcome (ordered_lent_acceptance c a) (walked_entries m c) a
