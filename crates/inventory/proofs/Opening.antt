-- What is tested before the events: the first test that fails, and what holds where none does. Assumes nothing.
use mathlib.Core.Path.{◌≡◌, refl, sym, ap, subst}
use mathlib.Core.Bool.{Bool, true, false}
use mathlib.Core.List.{List, [], ◌∷◌}
use Prim.Native.Nat.{ℕ, zero, suc, ◌+◌, ◌≤◌, ◌<◌}
use native.Mathlib.Decide.{ℕ_discrete}
use native.Mathlib.Omega.{arith}
use lib.ListN.{length}
use lib.Dec.{leb}
use borrow.Author.Tests.{leb-true, eqb-true, eq-eqb, ne_eqb}
use Rattle.weights.specs.declared.Measure.{Measure}
use Rattle.weights.specs.Measures.{algebra}
use Rattle.weights.specs.Choice.{pick}
use Rattle.refusal.specs.declared.Refusal.{Refusal}
use Rattle.refusal.specs.declared.Refusal.TheVariants.{AnswerLength, WrongAnswers, OpeningCount}
use Rattle.columns.specs.Columns.{Answers, Entries, Columns, own_at, cell, tail_at}
use Rattle.columns.specs.Acceptance.{most_vertices, lent_acceptance}
use Rattle.columns.specs.Lent.{Placed}
use Rattle.columns.specs.Same.{same_entries}
use Rattle.columns.proofs.Same.{entries_true}
use Rattle.columns.proofs.Accepted.{AcceptedColumns, AcceptedAt, refused, test_passed, both_accepted, below_at, table_accepted, columns_accepted}
use Rattle.provenance.specs.Labelling.{Fixpoint}
use Rattle.provenance.specs.BestFirst.{labels}
use Rattle.tables.specs.Table.{hypergraph}
use Rattle.settle.specs.Settling.{answers_of, entries_of}
use Rattle.settle.specs.Checking.{answers_acceptance}
use Rattle.settle.proofs.Demands.{answers_fixpoint}
use Rattle.inventory.specs.Shelf.{most_stock, most_events, Low, Buildable, Replayable}
use Rattle.inventory.specs.Replaying.{opening_acceptance, record_acceptance, open_acceptance, chosen_list}
use Rattle.inventory.proofs.Meaning.{chosen_made, chosen_unmade}
use Rattle.refusal.specs.Answers.{Acceptance}
use Rattle.std.specs.Prelude.{Ok, Err}

-- the record's lengths
pub record Recorded (n : ℕ) (vs ks os : List ℕ) : Type 0 where
  pub vertices : n ≤ most_vertices
  pub received : length ks ≡ length vs
  pub outcomes : length os ≡ length vs
  pub events : length vs ≤ most_events

pub record_accepted : (n : ℕ) (parts received outcomes : List ℕ) → record_acceptance n parts received outcomes ≡ Ok tt → Recorded n parts received outcomes
unfolding record_acceptance
record_accepted n parts received outcomes p =
    let t1 = test_passed _ _ _ p in
    let t2 = test_passed _ _ _ t1.1 in
    let t3 = test_passed _ _ _ t2.1 in
    let t4 = test_passed _ _ _ t3.1 in
    record { vertices = leb-true _ _ t1.0; received = eqb-true _ _ t2.0; outcomes = eqb-true _ _ t3.0; events = leb-true _ _ t4.0 }

opening_low : (i : ℕ) (stock : List ℕ) → opening_acceptance i stock ≡ Ok tt → Low stock
unfolding opening_acceptance
opening_low i [] e zero = omega arith
opening_low i [] e (suc v) = omega arith
opening_low i (x ∷ xs) e v = go (leb x most_stock) refl e (opening_low (i + 1) xs) v
  where
    go : (b : Bool) → leb x most_stock ≡ b → pick b (opening_acceptance (i + 1) xs) (Err (OpeningCount (record { 0 = i }))) ≡ Ok tt
        → (opening_acceptance (i + 1) xs ≡ Ok tt → Low xs) → Low (x ∷ xs)
    go true p q rest zero = leb-true _ _ p
    go true p q rest (suc v) = rest q v
    go false p q rest v = absurd (refused q)

-- what holds where nothing before the events is refused
pub record Opened (m : Measure) (c : Columns) (a : Entries) (parts received stock outcomes : List ℕ) : Type 0 where
  pub recorded : Recorded c.vertices parts received outcomes
  pub lent : lent_acceptance c a ≡ Ok tt
  pub columns : AcceptedColumns c a
  pub level : length stock ≡ c.vertices
  pub same : same_entries a (entries_of m c) ≡ true
  pub fixed : Fixpoint (algebra m) (hypergraph c) (own_at c) (labels a.labels)
  pub low : Low stock

labels_same : (m : Measure) (c : Columns) (a : Entries) → same_entries a (entries_of m c) ≡ true → a.labels ≡ answers_of m c
unfolding entries_of
labels_same m c a e = ap (λ (x : Entries). x.labels) (entries_true a (entries_of m c) e)

pub open_accepted : (m : Measure) (c : Columns) (a : Entries) (parts received stock outcomes : List ℕ) → open_acceptance m c a parts received stock outcomes ≡ Ok tt
    → Opened m c a parts received stock outcomes
unfolding open_acceptance
open_accepted m c a parts received stock outcomes p =
    let t = both_accepted (record_acceptance c.vertices parts received outcomes) _ p in
    let u = both_accepted (lent_acceptance c a) _ t.1 in
    let w = test_passed _ _ _ u.1 in
    let x = both_accepted (answers_acceptance m c a) _ w.1 in
    let l = columns_accepted c a u.0 in
    let same = (test_passed _ _ _ x.0).0 in
    record {
      recorded = record_accepted c.vertices parts received outcomes t.0;
      lent = u.0;
      columns = l;
      level = eqb-true _ _ w.0;
      same = same;
      fixed = subst (λ (b : Answers). Fixpoint (algebra m) (hypergraph c) (own_at c) (labels b)) (sym (labels_same m c a same)) (answers_fixpoint m c l.table);
      low = opening_low 0 stock x.1;
    }

-- so the chosen lines can be read, and list parts of the table
module _ {m : Measure} {c : Columns} {a : Entries} {parts received stock outcomes : List ℕ} (o : Opened m c a parts received stock outcomes) where
  module _ (v : ℕ) (n : ¬ (cell a.labels.depths v ≡ 0)) where
    chosen_line : cell a.labels.edges v < length c.heads
    chosen_line = (o.fixed.chosen v (record { deep = omega arith })).ready.stands.numbered

    line_accepted : AcceptedAt c (cell a.labels.edges v)
    line_accepted = (table_accepted c o.columns.table).each (cell a.labels.edges v) chosen_line

    line_placed : Placed c.spans c.tails (cell a.labels.edges v)
    line_placed =
        let e = line_accepted.1 in
        record { span = omega (arith, (table_accepted c o.columns.table).spans, chosen_line); short = e.short; within = e.within }

    line_inside : (k : ℕ) → k < length (tail_at c (cell a.labels.edges v)) → cell (tail_at c (cell a.labels.edges v)) k < c.vertices
    line_inside = below_at c.vertices (tail_at c (cell a.labels.edges v)) line_accepted.1.listed

  -- every part of a list is one of the table's
  abbrev Fits : List ℕ → Type 0
  Fits t = (k : ℕ) → k < length t → cell t k < c.vertices

  list_inside : (v : ℕ) → Fits (chosen_list c a.labels v)
  list_inside v = go (ℕ_discrete (cell a.labels.depths v) 0)
    where
      go : Dec (cell a.labels.depths v ≡ 0) → Fits (chosen_list c a.labels v)
      go (yes q) = subst Fits (sym (chosen_unmade c.spans c.tails a.labels.depths a.labels.edges v q)) (λ k h. absurd (omega arith))
      go (no n) = subst Fits (sym (chosen_made c.spans c.tails a.labels.depths a.labels.edges v n)) (line_inside v n)

  pub opened_replayable : Replayable c.spans c.tails a.labels.depths a.labels.edges parts received stock outcomes
  opened_replayable = record {
    buildable = subst (Buildable c.spans c.tails a.labels.depths a.labels.edges) (sym o.level) (record {
      depths = o.columns.sized.labels.depths;
      edges = o.columns.sized.labels.edges;
      placed = λ v h n. line_placed v n;
      inside = λ v h k l. list_inside v k l;
    });
    low = o.low;
    received = o.recorded.received;
    outcomes = o.recorded.outcomes;
  }

-- the code's tests, one after the other
module _ (m : Measure) (c : Columns) (a : Entries) (parts received stock outcomes : List ℕ) where
  abbrev verdict : Acceptance
  verdict = open_acceptance m c a parts received stock outcomes

  pub open_unrecorded : {r : Refusal} → record_acceptance c.vertices parts received outcomes ≡ Err r → Err r ≡ verdict
  unfolding open_acceptance
  open_unrecorded p = rw p

  module _ (p : record_acceptance c.vertices parts received outcomes ≡ Ok tt) where
    pub open_refused : {r : Refusal} → lent_acceptance c a ≡ Err r → Err r ≡ verdict
    unfolding open_acceptance
    open_refused q = rw (p, q)

    module _ (q : lent_acceptance c a ≡ Ok tt) where
      pub open_unlevel : ¬ (length stock ≡ c.vertices) → Err AnswerLength ≡ verdict
      unfolding open_acceptance
      open_unlevel n = rw (p, q, ne_eqb (length stock) c.vertices n)

      module _ (l : length stock ≡ c.vertices) where
        pub open_wrong : same_entries a (entries_of m c) ≡ false → Err WrongAnswers ≡ verdict
        unfolding open_acceptance
        open_wrong s = rw (p, q, eq-eqb (length stock) c.vertices l, s)

        pub open_counts : same_entries a (entries_of m c) ≡ true → opening_acceptance 0 stock ≡ verdict
        unfolding open_acceptance
        open_counts s = rw (p, q, eq-eqb (length stock) c.vertices l, s)
