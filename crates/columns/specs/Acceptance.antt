-- Which tables and answer columns are accepted: the refusals 1 to 6 and 21, and then 7, in the paper's order ("What is turned away"; document 02, 2026-02: 21 "after 4
-- in that line"). Assumes nothing: these are definitions.
use Rattle.std.specs.Prelude.{ℕ, zero, suc, ◌+◌, ◌*◌, Bool, true, false, List, [], ◌∷◌, length, ltb, leb, eqb, Ok, Err}
use Rattle.weights.specs.declared.Hyperedge.{Hyperedge}
use Rattle.weights.specs.Figures.{greatest, struck_mark}
use Rattle.weights.specs.Choice.{pick}
use Rattle.refusal.specs.declared.Refusal.{Refusal}
use Rattle.refusal.specs.declared.Refusal.TheVariants.{TooManyVertices, Lengths, Head, Own, Span, Tail, AnswerLength, StrikeMark}
use Rattle.columns.specs.Columns.{Entries, Columns, head_at, own_at, strike_at, offset_at, length_at, part}
use Rattle.refusal.specs.Answers.{Acceptance}

-- the greatest numbers of parts, of lines, of needed parts in all and of one line
abbrev pub most_vertices : ℕ
most_vertices = 1024

abbrev pub most_edges : ℕ
most_edges = 4096

abbrev pub most_listed : ℕ
most_listed = 16384

abbrev pub longest_tail : ℕ
longest_tail = 16

-- a test that refuses by r where it fails
abbrev pub test : Bool → Refusal → Acceptance → Acceptance
test true r a = a
test false r a = Err r

-- the first refusal of two answers
abbrev pub and_then : Acceptance → Acceptance → Acceptance
and_then (Ok _) b = b
and_then (Err r) b = Err r

-- every listed part is below n
unfoldable pub all_below : ℕ → List ℕ → Bool
all_below n [] = true
all_below n (v ∷ vs) = pick (ltb v n) (all_below n vs) false

-- refusals 3, 4, 21 and 5 of one line, where the span before it ends at `end` and `all` parts are listed in all
unfoldable pub fields_acceptance : (n : ℕ) → Hyperedge → (head own mark offset size end all : ℕ) → Acceptance
fields_acceptance n e head own mark offset size end all =
    test (ltb head n) (Head e)
    (test (leb own greatest) (Own e)
    (test (leb mark struck_mark) (StrikeMark e)
    (test (leb end offset) (Span e)
    (test (leb size longest_tail) (Span e)
    (test (leb (offset + size) all) (Span e)
    (Ok tt))))))

-- refusals 3, 4, 21, 5 and 6 of one line, where the span before it ends at `end`
unfoldable pub edge_acceptance : (n : ℕ) → Hyperedge → (head own mark offset size end : ℕ) → List ℕ → Acceptance
edge_acceptance n e head own mark offset size end tails =
    test (ltb head n) (Head e)
    (test (leb own greatest) (Own e)
    (test (leb mark struck_mark) (StrikeMark e)
    (test (leb end offset) (Span e)
    (test (leb size longest_tail) (Span e)
    (test (leb (offset + size) (length tails)) (Span e)
    (test (all_below n (part offset size tails)) (Tail e)
    (Ok tt)))))))

abbrev pub edge_at : Columns → (e end : ℕ) → Acceptance
edge_at c e end = edge_acceptance c.vertices (record { 0 = e }) (head_at c e) (own_at c e) (strike_at c e) (offset_at c e) (length_at c e) end c.tails

-- the first refusal of the `left` lines from e on
unfoldable pub edges_acceptance : Columns → (left e end : ℕ) → Acceptance
edges_acceptance c zero e end = Ok tt
edges_acceptance c (suc left) e end = and_then (edge_at c e end) (edges_acceptance c left (e + 1) (offset_at c e + length_at c e))

-- refusals 1 and 2
unfoldable pub sizes_acceptance : Columns → Acceptance
sizes_acceptance c =
    test (leb c.vertices most_vertices) TooManyVertices
    (test (eqb (length c.own) (length c.heads)) Lengths
    (test (eqb (length c.strikes) (length c.heads)) Lengths
    (test (leb (length c.heads) most_edges) Lengths
    (test (eqb (length c.spans) (2 * length c.heads)) Lengths
    (test (leb (length c.tails) most_listed) Lengths
    (Ok tt))))))

-- a table is accepted, or refused by the first of 1 to 6 and 21 that applies
unfoldable pub acceptance : Columns → Acceptance
acceptance c =
    test (leb c.vertices most_vertices) TooManyVertices
    (test (eqb (length c.own) (length c.heads)) Lengths
    (test (eqb (length c.strikes) (length c.heads)) Lengths
    (test (leb (length c.heads) most_edges) Lengths
    (test (eqb (length c.spans) (2 * length c.heads)) Lengths
    (test (leb (length c.tails) most_listed) Lengths
    (edges_acceptance c (length c.heads) 0 0))))))

-- the same with four answer columns, each exactly n long: 1 to 6 and 21, then 7
unfoldable pub lent_acceptance : Columns → Entries → Acceptance
lent_acceptance c a =
    and_then (acceptance c)
    (test (eqb (length a.labels.weights) c.vertices) AnswerLength
    (test (eqb (length a.labels.depths) c.vertices) AnswerLength
    (test (eqb (length a.labels.edges) c.vertices) AnswerLength
    (test (eqb (length a.pieces) c.vertices) AnswerLength
    (Ok tt)))))
