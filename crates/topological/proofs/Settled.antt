-- From the walk to the whole call, and what it leaves: on every table in order, and in every measure, what `settle` does. Assumes nothing.
use mathlib.Core.Path.{◌≡◌, refl, sym, ◌∙◌, ap, subst}
use mathlib.Core.List.{List}
use Prim.Native.Nat.{ℕ, ◌<◌}
use lib.Dec.{eqb}
use lib.ListN.{length}
use borrow.Author.Tests.{eqb-true}
use Rattle.weights.specs.declared.Measure.{Measure}
use Rattle.weights.specs.Measures.{algebra}
use Rattle.weights.proofs.Laws.{lawful}
use Rattle.refusal.specs.declared.Refusal.{Refusal}
use Rattle.refusal.specs.declared.Refusal.TheVariants.{AnswerLength}
use Rattle.columns.specs.Columns.{Answers, Sized, Entries, Columns, own_at, cell}
use Rattle.columns.specs.Acceptance.{test, lent_acceptance}
use Rattle.columns.specs.Owed.{Outcome}
use Rattle.columns.proofs.Accepted.{refused, test_passed, both_accepted, AcceptedColumns}
use Rattle.columns.proofs.Usable.{same_table}
use Rattle.provenance.specs.Labelling.{Fixpoint}
use Rattle.provenance.specs.BestFirst.{labels}
use Rattle.provenance.proofs.InOrder.{in_order-best_first}
use Rattle.tables.specs.Table.{hypergraph}
use Rattle.tables.proofs.Formed.{well_formed}
use Rattle.settle.specs.Settling.{answers_of, entries_of, outcome, settled}
use Rattle.settle.specs.Demands.{Demand2}
use Rattle.settle.proofs.Demands.{answers_fixpoint, demand_2}
use Rattle.settle.proofs.Settled.{answers_countable, entered}
use Rattle.pieces.specs.Counting.{Countable, counted}
use Rattle.provenance.specs.Pieces.{piece_column}
use Rattle.topological.specs.Ordering.{ordered_acceptance, ordered_lent_acceptance, walked, walked_entries, settled_in_order}
use Rattle.topological.specs.Walking.{Upward}
use Rattle.topological.proofs.Ordered.{ordered_accepted, table_in_order}
use Rattle.refusal.specs.Answers.{Acceptance}
use Rattle.std.specs.Prelude.{Ok, Err}

module _ (c : Columns) (a : Entries) where
  -- refusal 7
  abbrev lengths : Acceptance
  lengths =
      test (eqb (length a.labels.weights) c.vertices) AnswerLength
      (test (eqb (length a.labels.depths) c.vertices) AnswerLength
      (test (eqb (length a.labels.edges) c.vertices) AnswerLength
      (test (eqb (length a.pieces) c.vertices) AnswerLength
      (Ok tt))))

  pub lent_same : ordered_acceptance c ≡ Ok tt → ordered_lent_acceptance c a ≡ lent_acceptance c a
  unfolding ordered_lent_acceptance lent_acceptance
  lent_same p = rw (p, ((ordered_accepted c).0 p).0)

  pub lent_accepted : ordered_lent_acceptance c a ≡ Ok tt → (ordered_acceptance c ≡ Ok tt) × AcceptedColumns c a
  unfolding ordered_lent_acceptance
  lent_accepted p =
      let t = both_accepted (ordered_acceptance c) lengths p in
      let t1 = test_passed _ _ _ t.1 in
      let t2 = test_passed _ _ _ t1.1 in
      let t3 = test_passed _ _ _ t2.1 in
      let t4 = test_passed _ _ _ t3.1 in
      let labels_long : Sized c.vertices a.labels = record { weights = eqb-true _ _ t1.0; depths = eqb-true _ _ t2.0; edges = eqb-true _ _ t3.0 } in (
        t.0,
        record {
          table = ((ordered_accepted c).0 t.0).0;
          sized = record { labels = labels_long; pieces = eqb-true _ _ t4.0 };
        },
      )

module _ (m : Measure) (c : Columns) where
  pub same_answers : ordered_acceptance c ≡ Ok tt → walked m c ≡ answers_of m c
  unfolding answers_of
  same_answers p = in_order-best_first (lawful m) (own_at c) (well_formed c ((ordered_accepted c).0 p).0) (table_in_order c p)

  pub same_entries : ordered_acceptance c ≡ Ok tt → walked_entries m c ≡ entries_of m c
  unfolding entries_of
  same_entries p = let e = same_answers p in λ i. record { labels = e i; pieces = piece_column (hypergraph c) (labels (e i)) c.vertices }

  module _ (a : Entries) where
    pub ordered_refused_left : (r : Refusal) → ordered_lent_acceptance c a ≡ Err r → record { result = Err r; left = a } ≡ settled_in_order m c a
    unfolding settled_in_order
    ordered_refused_left r p = rw p

    pub ordered_all : (b : Entries) → ordered_lent_acceptance c a ≡ Ok tt → b ≡ walked_entries m c → record { result = Ok tt; left = b } ≡ settled_in_order m c a
    unfolding settled_in_order
    ordered_all b p q = rw (p, q)

    -- "Over every table within the rule, and all measures together, … both ways of settling leave the same columns": and have the same result, 7 too
    pub same_columns : ordered_acceptance c ≡ Ok tt → settled_in_order m c a ≡ settled m c a
    unfolding settled_in_order settled
    same_columns p = rw (lent_same c a p, same_entries p)

    result_accepted : (settled_in_order m c a).result ≡ Ok tt → ordered_lent_acceptance c a ≡ Ok tt
    unfolding settled_in_order
    result_accepted p = told (ordered_lent_acceptance c a) p
      where
        told : (x : Acceptance) → (outcome x (walked_entries m c) a).result ≡ Ok tt → x ≡ Ok tt
        told (Ok _) q = refl
        told (Err s) q = absurd (refused q)

    -- the answers have their meaning
    pub ordered_demand_2 : (settled_in_order m c a).result ≡ Ok tt → (v : ℕ) → Demand2 m c (settled_in_order m c a).left v
    ordered_demand_2 p v =
        let s = same_columns (lent_accepted c a (result_accepted p)).0 in
        subst (λ (o : Outcome Acceptance Entries). Demand2 m c o.left v) (sym s) (demand_2 m c a (sym (ap (λ (o : Outcome Acceptance Entries). o.result) s) ∙ p) v)

-- accepted columns tell the number of vertices, so `label` is not given it; and what it leaves can be counted
module _ (m : Measure) (c : Columns) (a : Entries) (h : AcceptedColumns c a) {b : Answers} (e : b ≡ walked m (same_table c (length a.labels.depths))) where
  told_walked : b ≡ walked m c
  told_walked = subst (λ (n : ℕ). b ≡ walked m (same_table c n)) h.sized.labels.depths e

  module _ (p : ordered_acceptance c ≡ Ok tt) where
    right : b ≡ answers_of m c
    right = told_walked ∙ same_answers m c p

    pub walked_countable : Countable c.spans c.tails b.depths b.edges a.pieces
    walked_countable = answers_countable m c h.table right h.sized.pieces

    -- from part 0 up: a chosen line yields its part, and lists only parts below that
    pub walked_upward : Upward c.spans c.tails b.depths b.edges
    walked_upward = record {
      below = λ v d u i.
          let fix = subst (λ (z : Answers). Fixpoint (algebra m) (hypergraph c) (own_at c) (labels z)) (sym right) (answers_fixpoint m c h.table) in
          let chosen = fix.chosen v (record { deep = d }) in
          subst (λ (x : ℕ). u < x) chosen.yields ((table_in_order c p).below (cell b.edges v) chosen.ready.stands.numbered u i);
    }

    pub walked-counted : {new : List ℕ} → new ≡ counted c.spans c.tails b.depths b.edges → record { labels = b; pieces = new } ≡ walked_entries m c
    walked-counted q = entered m c h.table right q ∙ sym (same_entries m c p)
