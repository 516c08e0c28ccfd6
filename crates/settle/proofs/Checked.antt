-- The laws by which `labels_right`, `answers_right` and `check_answers` go: where every test passes the answers are the table's, and where one fails they are not. Assumes nothing.
use mathlib.Core.Path.{◌≡◌, refl, sym, ◌∙◌, ap, subst}
use mathlib.Core.Bool.{Bool, true, false}
use Prim.Native.Nat.{ℕ, ◌+◌, ◌≤◌}
use native.Mathlib.Omega.{arith}
use native.Mathlib.Decide.{dec_le}
use lib.ListN.{length, get_or, get_or-eq_default}
use Rattle.weights.specs.declared.Measure.{Measure}
use Rattle.weights.specs.Choice.{pick}
use Rattle.weights.proofs.Choice.{apart}
use Rattle.weights.specs.Measures.{algebra}
use Rattle.weights.proofs.Laws.{lawful}
use Rattle.refusal.specs.declared.Refusal.{Refusal}
use Rattle.provenance.specs.Labelling.{Fixpoint}
use Rattle.columns.specs.Columns.{Answers, Entries, Columns, own_at}
use Rattle.provenance.specs.BestFirst.{labels}
use Rattle.provenance.proofs.Existence.{exists_shallow}
use Rattle.provenance.specs.Local.{every, vertex_right, edge_right}
use Rattle.provenance.proofs.Local.{all_right_lem, not_fixpoint, vertex_fails, edge_fails}
use Rattle.tables.specs.Table.{hypergraph}
use Rattle.columns.specs.Acceptance.{most_vertices, lent_acceptance, all_below}
use Rattle.columns.proofs.Accepted.{AcceptedLabels, AcceptedColumns, table_accepted, below_at, below_all}
use Rattle.tables.proofs.Formed.{well_formed}
use Rattle.columns.specs.Same.{equal, same_answers, same_entries}
use Rattle.columns.proofs.Same.{same_refl, same_true, same_not}
use Rattle.columns.specs.Lent.{Turning}
use Rattle.settle.specs.Settling.{answers_of, entries_of}
use Rattle.settle.specs.Checking.{verdict as judged, checked}
use Rattle.settle.specs.Comparing.{all_right}
use Rattle.pieces.specs.Counting.{Countable, counted}
use Rattle.settle.proofs.Settled.{answers_countable, answers-counted}
use Rattle.columns.proofs.Usable.{same_table, turning_columns}
use Rattle.std.specs.Prelude.{Ok, Err}

module _ (m : Measure) (c : Columns) (a : Entries) where
  pub checked_refused : (r : Refusal) → lent_acceptance c a ≡ Err r → Err r ≡ checked m c a
  unfolding checked
  checked_refused r p = rw p

  pub checked_told : (b : Bool) → lent_acceptance c a ≡ Ok tt → same_entries a (entries_of m c) ≡ b → judged (Ok tt) b ≡ checked m c a
  unfolding checked
  checked_told b p q = rw (p, q)

module _ (m : Measure) (c : Columns) (a : Answers) (l : AcceptedLabels c a) where
  others : ¬ (a ≡ answers_of m c) → false ≡ same_answers a (answers_of m c)
  others n = sym (same_not a (answers_of m c) n)

  -- a depth above the number of vertices is none of the table's
  pub too_deep : all_below (c.vertices + 1) a.depths ≡ false → false ≡ same_answers a (answers_of m c)
  unfolding answers_of
  too_deep q =
      let low = exists_shallow (lawful m) (own_at c) (well_formed c l.table) in
      others (λ e. apart (sym q ∙ below_all _ _ (λ k h. omega (arith, low k, ap (λ (b : Answers). get_or b.depths k 0) e))))

  -- else the columns can be looked at
  shallow : all_below (c.vertices + 1) a.depths ≡ true → (v : ℕ) → Dec (length a.depths ≤ v) → get_or a.depths v 0 ≤ most_vertices
  shallow q v (yes h) = omega (arith, get_or-eq_default a.depths 0 {n = v} h)
  shallow q v (no n) = omega (arith, below_at _ _ q v (omega arith), (table_accepted c l.table).few)

  pub usable : all_below (c.vertices + 1) a.depths ≡ true → Turning (same_table c (length a.depths)) a
  usable q = turning_columns c a l.table l.sized (λ v. shallow q v (dec_le (length a.depths) v))

  -- the tests of all vertices and of all hyperedges, as the functions give them
  abbrev vertices : Bool
  vertices = every (vertex_right (algebra m) (hypergraph (same_table c (length a.depths))) (own_at c) (labels a)) (length a.depths)

  abbrev edges : Bool
  edges = every (edge_right (algebra m) (hypergraph (same_table c (length a.depths))) (own_at c) (labels a)) (length c.heads)

  vertices_at : {b : Bool} → vertices ≡ b → every (vertex_right (algebra m) (hypergraph c) (own_at c) (labels a)) c.vertices ≡ b
  vertices_at {b} q = subst (λ (n : ℕ). every (vertex_right (algebra m) (hypergraph (same_table c n)) (own_at c) (labels a)) n ≡ b) l.sized.depths q

  edges_at : {b : Bool} → edges ≡ b → every (edge_right (algebra m) (hypergraph c) (own_at c) (labels a)) (length c.heads) ≡ b
  edges_at {b} q = subst (λ (n : ℕ). every (edge_right (algebra m) (hypergraph (same_table c n)) (own_at c) (labels a)) (length c.heads) ≡ b) l.sized.depths q

  fixpoint_only : ¬ Fixpoint (algebra m) (hypergraph c) (own_at c) (labels a) → false ≡ same_answers a (answers_of m c)
  unfolding answers_of
  fixpoint_only n = others (not_fixpoint (lawful m) (hypergraph c) (own_at c) a l.sized (well_formed c l.table) n)

  wrong_vertex : vertices ≡ false → false ≡ same_answers a (answers_of m c)
  wrong_vertex q = fixpoint_only (vertex_fails (lawful m) (hypergraph c) (own_at c) a l.sized (vertices_at q))

  right_all : vertices ≡ true → edges ≡ true → a ≡ answers_of m c
  unfolding answers_of
  right_all p q = all_right_lem (lawful m) (hypergraph c) (own_at c) a l.sized (well_formed c l.table) (vertices_at p) (edges_at q)

  -- where every vertex is right, the hyperedges decide
  edges_decide : vertices ≡ true → edges ≡ same_answers a (answers_of m c)
  edges_decide p = go edges refl
    where
      go : (b : Bool) → edges ≡ b → b ≡ same_answers a (answers_of m c)
      go true q = subst (λ (x : Answers). true ≡ same_answers a x) (right_all p q) (sym (same_refl a))
      go false q = fixpoint_only (edge_fails (lawful m) (hypergraph c) (own_at c) a l.sized (edges_at q))

  -- all the tests together
  pub all_decide : all_right m (same_table c (length a.depths)) a ≡ same_answers a (answers_of m c)
  unfolding all_right
  all_decide = go vertices refl
    where
      go : (b : Bool) → vertices ≡ b → pick b edges false ≡ same_answers a (answers_of m c)
      go true p = edges_decide p
      go false p = wrong_vertex p

-- the fourth column, where the other three are the table's -----------------------------------------------------------------------------------------
module _ (m : Measure) (c : Columns) (a : Entries) (l : AcceptedColumns c a) where
  pub labels_wrong : same_answers a.labels (answers_of m c) ≡ false → false ≡ same_entries a (entries_of m c)
  unfolding same_entries entries_of
  labels_wrong q = rw q

  module _ (q : same_answers a.labels (answers_of m c) ≡ true) where
    right : a.labels ≡ answers_of m c
    right = same_true a.labels (answers_of m c) q

    pub right_counts : Countable c.spans c.tails a.labels.depths a.labels.edges a.pieces
    right_counts = answers_countable m c l.table right l.sized.pieces

    pub pieces_decide : {b : Bool} → b ≡ equal a.pieces (counted c.spans c.tails a.labels.depths a.labels.edges) → b ≡ same_entries a (entries_of m c)
    unfolding same_entries entries_of
    pieces_decide {b} e =
        let r : b ≡ equal a.pieces (entries_of m c).pieces = e ∙ ap (equal a.pieces) (answers-counted m c l.table right) in
        rw q r
