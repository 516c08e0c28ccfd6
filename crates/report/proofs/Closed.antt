-- Closing the gaps of a table changes none of its answers: its columns hold the same hypergraph, with the same own figures and strike marks. The paper's "Gaps may stand between
-- spans and their contents are never looked at". Assumes nothing.
use Prim.Native.Nat.{ℕ, zero, suc, ◌+◌, ◌*◌, ◌≤◌, ◌<◌}
use mathlib.Core.Path.{◌≡◌, refl, sym, ◌∙◌, ap, ap₂}
use mathlib.Core.Bool.{not}
use mathlib.Core.List.{List, []}
use native.Mathlib.Omega.{arith}
use native.Mathlib.Decide.{dec_le}
use lib.ListN.{length, get_or, get_or-eq_default}
use Rattle.weights.specs.declared.Measure.{Measure}
use Rattle.weights.specs.Figures.{is_struck_mark}
use Rattle.weights.specs.Measures.{algebra}
use Rattle.provenance.specs.Hypergraph.{Hypergraph}
use Rattle.provenance.specs.BestFirst.{labels, best_first}
use Rattle.columns.proofs.Filled.{take-filled}
use Rattle.columns.specs.Columns.{Columns, columns, head_at, own_at, strike_at, part, tail_at}
use Rattle.tables.specs.Table.{hypergraph}
use Rattle.columns.specs.Acceptance.{acceptance}
use Rattle.columns.proofs.Accepted.{AcceptedTable, table_accepted}
use Rattle.settle.specs.Settling.{answers_of, entries_of}
use Rattle.provenance.specs.Pieces.{piece_column}
use Rattle.text.specs.Tables.{Edge, edge, edges_from, edges_of, closed}
use Rattle.text.proofs.Rows.{length_heads, closed_edges, closed_accepted}
use Rattle.readtable.specs.Read.{columns_read}
use Rattle.roundtrip.specs.RoundTrip.{header_for, filled_with}
use Rattle.std.specs.Prelude.{Ok}

abbrev edge_at : Columns → ℕ → Edge
edge_at c e = edge (head_at c e) (own_at c e) (strike_at c e) (tail_at c e)

-- the hyperedges as a list, and one by one
edge_in : (c : Columns) (left from k : ℕ) → k < left → get_or (edges_from c left from) k (edge 0 0 0 []) ≡ edge_at c (from + k)
unfolding edges_from
edge_in c zero from k h = absurd (omega arith)
edge_in c (suc left) from zero h = let q : from ≡ from + 0 = omega arith in ap (edge_at c) q
edge_in c (suc left) from (suc k) h = let q : from + 1 + k ≡ from + suc k = omega arith in edge_in c left (from + 1) k (omega arith) ∙ ap (edge_at c) q

length_edges : (c : Columns) (left from : ℕ) → length (edges_from c left from) ≡ left
unfolding edges_from
length_edges c zero from = refl
length_edges c (suc left) from = ap suc (length_edges c left (from + 1))

-- beyond the last hyperedge all columns are read as zeros
beyond : (c : Columns) → AcceptedTable c → (e : ℕ) → length c.heads ≤ e → edge_at c e ≡ edge 0 0 0 []
beyond c t e h =
    let s = t.spans in
    let w = t.own in
    let k = t.strikes in
    let o = get_or-eq_default c.spans 0 {n = 2 * e} (omega arith) in
    let l = get_or-eq_default c.spans 0 {n = 2 * e + 1} (omega arith) in
    let x = get_or-eq_default c.heads 0 {n = e} h in
    let y = get_or-eq_default c.own 0 {n = e} (omega arith) in
    let z = get_or-eq_default c.strikes 0 {n = e} (omega arith) in
    λ i. edge (x i) (y i) (z i) (part (o i) (l i) c.tails)

module _ (m : Measure) (c : Columns) (p : acceptance c ≡ Ok tt) where
  as_many : length (closed c).heads ≡ length c.heads
  as_many = length_heads (edges_of c) ∙ length_edges c (length c.heads) 0

  -- every hyperedge is the same
  same_edge : (e : ℕ) → edge_at (closed c) e ≡ edge_at c e
  same_edge e = go (dec_le (length c.heads) e)
    where
      at : (a : Columns) → e < length a.heads → edge_at a e ≡ get_or (edges_of a) e (edge 0 0 0 [])
      at a h = let q : 0 + e ≡ e = omega arith in sym (edge_in a (length a.heads) 0 e h ∙ ap (edge_at a) q)

      go : Dec (length c.heads ≤ e) → edge_at (closed c) e ≡ edge_at c e
      go (yes h) = let n = as_many in beyond (closed c) (table_accepted (closed c) (closed_accepted m c p)) e (omega arith) ∙ sym (beyond c (table_accepted c p) e h)
      go (no h) = let n = as_many in at (closed c) (omega arith) ∙ ap (λ (es : List Edge). get_or es e (edge 0 0 0 [])) (closed_edges c) ∙ sym (at c (omega arith))

  same_hypergraph : hypergraph (closed c) ≡ hypergraph c
  same_hypergraph =
      λ i. record {
        vertices = c.vertices;
        edges = as_many i;
        head = λ e. (same_edge e i).head;
        tail = λ e. (same_edge e i).tail;
        live = λ e. not (is_struck_mark (same_edge e i).mark);
      }

  answers_closed : answers_of m (closed c) ≡ answers_of m c
  unfolding answers_of
  answers_closed = ap₂ (λ (H : Hypergraph) (own : ℕ → ℕ). best_first (algebra m) H own) same_hypergraph (λ i e. (same_edge e i).own)

  pub entries_closed : entries_of m (closed c) ≡ entries_of m c
  unfolding entries_of
  entries_closed = let a = answers_closed in let H = same_hypergraph in λ i. record { labels = a i; pieces = piece_column (H i) (labels (a i)) c.vertices }

  -- the closed columns, filled into lent ones and read back from their start
  pub filled_back : (h o ms s t : List ℕ) → columns_read (header_for m (closed c)) (filled_with (closed c) m h o ms s t) ≡ closed c
  filled_back h o ms s t =
      let u = table_accepted (closed c) (closed_accepted m c p) in
      let z = closed c in
      let spans = take-filled z.spans s (2 * length z.heads) u.spans in
      let tails = take-filled z.tails t (length z.tails) refl in
      let heads = take-filled z.heads h (length z.heads) refl in
      let own = take-filled z.own o (length z.heads) u.own in
      let strikes = take-filled z.strikes ms (length z.heads) u.strikes in
      λ i. columns z.vertices (heads i) (own i) (strikes i) (spans i) (tails i)
