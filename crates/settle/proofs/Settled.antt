-- From best-first to the whole call: the laws by which `label_vertices`, `label` and `settle` go. Assumes nothing.
use mathlib.Core.Path.{◌≡◌, sym, ◌∙◌, ap, subst}
use mathlib.Core.List.{List}
use Prim.Native.Nat.{ℕ, ◌≤◌}
use native.Mathlib.Omega.{arith}
use lib.ListN.{length, get_or, replicate, length-replicate}
use Rattle.weights.specs.declared.Measure.{Measure}
use Rattle.weights.specs.Measures.{algebra}
use Rattle.weights.proofs.Laws.{lawful}
use Rattle.refusal.specs.declared.Refusal.{Refusal}
use Rattle.columns.specs.Columns.{Answers, Sized, Entries, Columns, answers, own_at}
use Rattle.provenance.specs.BestFirst.{labels, turns, best_first}
use Rattle.provenance.specs.Labelling.{Fixpoint}
use Rattle.provenance.specs.Pieces.{piece_column}
use Rattle.provenance.proofs.Existence.{zeros}
use Rattle.tables.specs.Table.{hypergraph}
use Rattle.columns.specs.Acceptance.{most_vertices, acceptance, lent_acceptance}
use Rattle.columns.proofs.Accepted.{AcceptedLabels, AcceptedColumns}
use Rattle.columns.proofs.Usable.{same_table, turning_columns}
use Rattle.pieces.specs.Counting.{Countable, counted}
use Rattle.pieces.proofs.Accepted.{countable, counted_is}
use Rattle.bestfirst.specs.Turns.{Blank}
use Rattle.settle.specs.Settling.{answers_of, entries_of, settled}
use Rattle.settle.proofs.Demands.{answers_fixpoint, answers_sized}
use Rattle.std.specs.Prelude.{Ok, Err}

module _ (m : Measure) (c : Columns) (a : Entries) where
  pub settled_refused : (r : Refusal) → lent_acceptance c a ≡ Err r → record { result = Err r; left = a } ≡ settled m c a
  unfolding settled
  settled_refused r p = rw p

  pub settled-all : (b : Entries) → lent_acceptance c a ≡ Ok tt → b ≡ entries_of m c → record { result = Ok tt; left = b } ≡ settled m c a
  unfolding settled
  settled-all b p q = rw (p, q)

module _ (m : Measure) (c : Columns) (a : Answers) where
  -- the columns are set to 0
  module _ (h : AcceptedLabels c a) {ws ds es : List ℕ} (p : ws ≡ replicate (length a.weights) 0) (q : ds ≡ replicate (length a.depths) 0) (r : es ≡ replicate (length a.edges) 0) where
    weights-long : length ws ≡ c.vertices
    weights-long = ap length p ∙ length-replicate (length a.weights) 0 ∙ h.sized.weights

    depths_long : length ds ≡ c.vertices
    depths_long = ap length q ∙ length-replicate (length a.depths) 0 ∙ h.sized.depths

    edges_long : length es ≡ c.vertices
    edges_long = ap length r ∙ length-replicate (length a.edges) 0 ∙ h.sized.edges

    cleared : answers ws ds es ≡ turns (algebra m) (hypergraph c) (own_at c) 0
    unfolding turns
    cleared = rw (p, q, r, h.sized.weights, h.sized.depths, h.sized.edges)

    pub all_unmade : Blank m (same_table c (length ds)) (answers ws ds es)
    all_unmade =
        let long : Sized c.vertices (answers ws ds es) = record { weights = weights-long; depths = depths_long; edges = edges_long } in
        let low : (v : ℕ) → get_or ds v 0 ≤ most_vertices = λ v. omega (arith, ap (λ (x : List ℕ). get_or x v 0) q, zeros (length a.depths) v) in
        record {
          turning = turning_columns c (answers ws ds es) h.table long low;
          blank = subst (λ (n : ℕ). answers ws ds es ≡ turns (algebra m) (hypergraph (same_table c n)) (own_at c) 0) (sym depths_long) cleared;
        }

    pub labelled : {b : Answers} → b ≡ best_first (algebra m) (hypergraph (same_table c (length ds))) (own_at c) → b ≡ answers_of m c
    unfolding answers_of
    labelled {b} e = subst (λ (n : ℕ). b ≡ best_first (algebra m) (hypergraph (same_table c n)) (own_at c)) depths_long e

-- answers of an accepted table can be counted, and what counting leaves is its fourth column
module _ (m : Measure) (c : Columns) (p : acceptance c ≡ Ok tt) {b : Answers} (right : b ≡ answers_of m c) where
  sized : Sized c.vertices b
  sized = subst (λ (z : Answers). Sized c.vertices z) (sym right) (answers_sized m c p)

  pub answers_countable : {pieces : List ℕ} → length pieces ≡ c.vertices → Countable c.spans c.tails b.depths b.edges pieces
  answers_countable l =
      let fix = subst (λ (z : Answers). Fixpoint (algebra m) (hypergraph c) (own_at c) (labels z)) (sym right) (answers_fixpoint m c p) in
      countable c b p sized (lawful m) fix l

  pub answers-counted : counted c.spans c.tails b.depths b.edges ≡ (entries_of m c).pieces
  unfolding entries_of
  answers-counted = counted_is c b p sized ∙ ap (λ (z : Answers). piece_column (hypergraph c) (labels z) c.vertices) right

  pub entered : {new : List ℕ} → new ≡ counted c.spans c.tails b.depths b.edges → record { labels = b; pieces = new } ≡ entries_of m c
  unfolding entries_of
  entered e = let q = e ∙ answers-counted in λ i. record { labels = right i; pieces = q i }

-- accepted columns tell the number of vertices, so `label` is not given it
module _ (c : Columns) (a : Entries) (h : AcceptedColumns c a) where
  pub told_accepted : AcceptedColumns (same_table c (length a.labels.depths)) a
  told_accepted = subst (λ (n : ℕ). AcceptedColumns (same_table c n) a) (sym h.sized.labels.depths) h

  pub told_answers : (m : Measure) {b : Entries} → b ≡ entries_of m (same_table c (length a.labels.depths)) → b ≡ entries_of m c
  told_answers m {b} e = subst (λ (n : ℕ). b ≡ entries_of m (same_table c n)) h.sized.labels.depths e
