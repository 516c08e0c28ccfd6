-- What the answers of a table mean: demand 2, of what settling leaves, and the rule of the answer check. Assumes nothing.
use mathlib.Core.Path.{◌≡◌, refl, sym, ◌∙◌, subst}
use mathlib.Core.Bool.{Bool, true, false}
use Prim.Native.Nat.{ℕ, ◌≤◌}
use native.Mathlib.Omega.{arith}
use lib.ListN.{get_or-eq_default}
use Rattle.weights.specs.declared.Measure.{Measure}
use Rattle.weights.specs.declared.Measure.TheVariants.{Cost, Days, Grade}
use Rattle.weights.specs.Measures.{algebra}
use Rattle.weights.proofs.Laws.{lawful, cost_lawful, days_lawful, grade_lawful}
use Rattle.weights.specs.declared.Label.{Label}
use Rattle.refusal.specs.declared.Refusal.{Refusal}
use Rattle.provenance.specs.Labelling.{Fixpoint}
use Rattle.provenance.specs.Means.{Means}
use Rattle.provenance.specs.Pieces.{pieces_at, HasPieces}
use Rattle.provenance.proofs.Pieces.{length-below, below_all, pieces_unmade, has_pieces}
use Rattle.provenance.proofs.Support.{chosen, supports}
use Rattle.provenance.proofs.Meaning.{meaning}
use Rattle.columns.specs.Columns.{Sized, Entries, SizedEntries, Columns, cell, own_at}
use Rattle.provenance.specs.BestFirst.{labels}
use Rattle.provenance.proofs.Existence.{exists, exists_sized, exists_shallow}
use Rattle.provenance.proofs.Semirings.{cost_computes, days_weighs, grade_computes}
use Rattle.provenance.proofs.Provenance.{provenance}
use Rattle.provenance.proofs.BestWeight.{best_weight}
use Rattle.tables.specs.Table.{hypergraph}
use Rattle.columns.specs.Acceptance.{acceptance, lent_acceptance}
use Rattle.columns.proofs.Accepted.{columns_accepted, columns_accept}
use Rattle.tables.proofs.Formed.{well_formed}
use Rattle.columns.specs.Same.{same_entries}
use Rattle.columns.proofs.Same.{entries_refl, entries_true}
use Rattle.settle.specs.Settling.{answers_of, entries_of, outcome, settled}
use Rattle.settle.specs.Checking.{verdict, checked}
use Rattle.settle.specs.Demands.{Demand2}
use Rattle.settle.specs.Worth.{Worth}
use Rattle.refusal.specs.Answers.{Acceptance}
use Rattle.std.specs.Prelude.{Ok, Err}

module _ (m : Measure) (c : Columns) (p : acceptance c ≡ Ok tt) where
  pub answers_fixpoint : Fixpoint (algebra m) (hypergraph c) (own_at c) (labels (answers_of m c))
  unfolding answers_of
  answers_fixpoint = exists (lawful m) (own_at c) (well_formed c p)

  pub answers_sized : Sized c.vertices (answers_of m c)
  unfolding answers_of
  answers_sized = exists_sized (lawful m) (own_at c) (well_formed c p)

  answers_shallow : (v : ℕ) → (labels (answers_of m c) v).depth ≤ c.vertices
  unfolding answers_of
  answers_shallow = exists_shallow (lawful m) (own_at c) (well_formed c p)

  fixpoint_worth : (k : Measure) {ls : ℕ → Label} → Fixpoint (algebra k) (hypergraph c) (own_at c) ls → (v : ℕ) → Worth k c (ls v) v
  fixpoint_worth Cost fix v = provenance cost_computes (hypergraph c) (own_at c) cost_lawful (well_formed c p) fix v
  fixpoint_worth Days fix v = best_weight days_weighs (hypergraph c) (own_at c) days_lawful (well_formed c p) fix v
  fixpoint_worth Grade fix v = provenance grade_computes (hypergraph c) (own_at c) grade_lawful (well_formed c p) fix v

  pub answers_means : (v : ℕ) → Means (algebra m) (hypergraph c) (own_at c) (labels (answers_of m c) v) v
  answers_means v = meaning (lawful m) answers_fixpoint v

  -- beyond the columns no vertex is made
  answers_end : (v : ℕ) → c.vertices ≤ v → (labels (answers_of m c) v).depth ≡ 0
  answers_end v h = get_or-eq_default (answers_of m c).depths 0 (omega (arith, answers_sized.depths))

  -- the fourth column holds the counts
  pub entries_at : (v : ℕ) → cell (entries_of m c).pieces v ≡ pieces_at (hypergraph c) (labels (answers_of m c)) v
  unfolding entries_of
  entries_at v =
      let ls = labels (answers_of m c) in
      below_all (pieces_at (hypergraph c) ls) c.vertices (λ u h. pieces_unmade (hypergraph c) ls u (answers_end u h)) v

  pub entries_sized : SizedEntries c.vertices (entries_of m c)
  unfolding entries_of
  entries_sized = record { labels = answers_sized; pieces = length-below (pieces_at (hypergraph c) (labels (answers_of m c))) c.vertices }

  -- the entries of an accepted table
  pub entries_mean : (v : ℕ) → Demand2 m c (entries_of m c) v
  unfolding entries_of
  entries_mean v =
      let fix = answers_fixpoint in
      record {
        means = answers_means v;
        worth = fixpoint_worth m fix v;
        chosen = chosen (lawful m) fix v;
        supports = λ k. let t = chosen (lawful m) fix v k in supports (lawful m) fix t.tree t.follows;
        shallow = answers_shallow v;
        pieces = subst (λ (p : ℕ). HasPieces (hypergraph c) (labels (answers_of m c)) v p) (sym (entries_at v)) (has_pieces fix (lawful m) v);
      }

module _ (m : Measure) (c : Columns) (a : Entries) where
  pub settled_left : lent_acceptance c a ≡ Ok tt → (settled m c a).left ≡ entries_of m c
  unfolding settled
  settled_left p = rw p

  -- settling is accepted exactly where no refusal of 1 to 7 applies, and a refusal leaves the columns
  pub settled_result_lem : (settled m c a).result ≡ lent_acceptance c a
  unfolding settled
  settled_result_lem = go (lent_acceptance c a)
    where
      go : (r : Acceptance) → (outcome r (entries_of m c) a).result ≡ r
      go (Ok _) = refl
      go (Err r) = refl

  pub settled_keeps : (r : Refusal) → lent_acceptance c a ≡ Err r → (settled m c a).left ≡ a
  unfolding settled
  settled_keeps r p = rw p

  -- demand 2: of what settling leaves, for every part
  pub demand_2 : (settled m c a).result ≡ Ok tt → (v : ℕ) → Demand2 m c (settled m c a).left v
  demand_2 p v =
      let q = sym settled_result_lem ∙ p in
      subst (λ (b : Entries). Demand2 m c b v) (sym (settled_left q)) (entries_mean m c (columns_accepted c a q).table v)

  -- the answer check says yes to the table's answers, and to nothing else
  pub yes_only : checked m c a ≡ Ok true → a ≡ entries_of m c
  unfolding checked
  yes_only e = go (lent_acceptance c a) (same_entries a (entries_of m c)) refl e
    where
      go : (x : Acceptance) (b : Bool) → same_entries a (entries_of m c) ≡ b → verdict x b ≡ Ok true → a ≡ entries_of m c
      go (Err r) b q k = let z : ◌≡◌ {A = ℕ} 0 1 = cc in absurd (omega arith)
      go (Ok _) true q k = entries_true a (entries_of m c) q
      go (Ok _) false q k = let z : ◌≡◌ {A = ℕ} 0 1 = cc in absurd (omega arith)

pub yes_settled : (m : Measure) (c : Columns) (a : Entries) → (settled m c a).result ≡ Ok tt → checked m c (settled m c a).left ≡ Ok true
unfolding checked
yes_settled m c a p =
    let q = sym (settled_result_lem m c a) ∙ p in
    let t = (columns_accepted c a q).table in
    let e = settled_left m c a q in
    subst (λ (b : Entries). verdict (lent_acceptance c b) (same_entries b (entries_of m c)) ≡ Ok true) (sym e)
    (rw (columns_accept c (entries_of m c) t (entries_sized m c t), entries_refl (entries_of m c)))
