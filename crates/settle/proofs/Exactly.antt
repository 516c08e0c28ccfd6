-- The answer check says yes exactly to the answers that the paper defines: "yes exactly if they are the ones defined above, whoever wrote them". Assumes nothing.
use mathlib.Core.Path.{◌≡◌, refl, sym, ◌∙◌, ap, subst}
use mathlib.Core.Bool.{Bool, true, false}
use mathlib.Core.Logic.{◌↔◌}
use Prim.Native.Nat.{ℕ, ◌<◌}
use native.Mathlib.Omega.{arith}
use lib.Seq.{ext_get_or}
use Rattle.weights.specs.declared.Measure.{Measure}
use Rattle.weights.specs.declared.Label.{Label}
use Rattle.weights.proofs.Choice.{apart}
use Rattle.weights.proofs.Laws.{lawful}
use Rattle.refusal.specs.declared.Refusal.{Refusal}
use Rattle.provenance.specs.Pieces.{HasPieces}
use Rattle.provenance.proofs.Pieces.{pieces_only}
use Rattle.provenance.proofs.Meaning.{means_unique}
use Rattle.columns.specs.Columns.{Answers, Entries, Columns, cell}
use Rattle.provenance.specs.BestFirst.{labels}
use Rattle.tables.specs.Table.{hypergraph}
use Rattle.columns.specs.Acceptance.{lent_acceptance}
use Rattle.columns.proofs.Accepted.{columns_accepted}
use Rattle.columns.specs.Same.{same_entries}
use Rattle.columns.proofs.Same.{entries_refl, entries_true}
use Rattle.settle.specs.Settling.{answers_of, entries_of}
use Rattle.settle.specs.Checking.{verdict as told, checked}
use Rattle.settle.proofs.Demands.{answers_fixpoint, answers_sized, answers_means, entries_at, entries_sized, entries_mean}
use Rattle.settle.specs.Demands.{Demand2}
use Rattle.settle.specs.Defined.{EntryMeans, AllMean, Defined}
use Rattle.refusal.specs.Answers.{Acceptance}
use Rattle.std.specs.Prelude.{Ok, Err}
use Rattle.refusal.specs.Answers.{Verdict}

yes_not_no : {A : Type 0} → ◌≡◌ {A = Verdict} (Ok false) (Ok true) → A
yes_not_no e = let z : ◌≡◌ {A = ℕ} 0 1 = cc in absurd (omega arith)

no_refusal : {A : Type 0} {r : Refusal} → ◌≡◌ {A = Verdict} (Err r) (Ok false) → A
no_refusal e = let z : ◌≡◌ {A = ℕ} 0 1 = cc in absurd (omega arith)

yes_refusal : {A : Type 0} {r : Refusal} → ◌≡◌ {A = Verdict} (Err r) (Ok true) → A
yes_refusal e = let z : ◌≡◌ {A = ℕ} 0 1 = cc in absurd (omega arith)

-- an entry that meets demand 2 is the one that the paper defines
pub demand_entry : {m : Measure} {c : Columns} {a : Entries} {v : ℕ} → Demand2 m c a v → EntryMeans m c a v
demand_entry d = record { means = d.means; pieces = d.pieces }

module _ (m : Measure) (c : Columns) (a : Entries) where
  defined_labels : Defined m c a → a.labels ≡ answers_of m c
  defined_labels d =
      let g = columns_accepted c a d.accepted in
      let s = g.sized.labels in
      let t = answers_sized m c g.table in
      let b = answers_of m c in
      let u : (v : ℕ) → v < c.vertices → labels a.labels v ≡ labels b v =
      λ v h. means_unique (lawful m) (labels a.labels v) (labels b v) (d.means v h).means (answers_means m c g.table v) in
      let weights = ext_get_or 0 a.labels.weights b.weights (s.weights ∙ sym t.weights) (λ v h. ap (λ (l : Label). l.weight.0) (u v (omega (arith, s.weights)))) in
      let depths = ext_get_or 0 a.labels.depths b.depths (s.depths ∙ sym t.depths) (λ v h. ap (λ (l : Label). l.depth) (u v (omega (arith, s.depths)))) in
      let edges = ext_get_or 0 a.labels.edges b.edges (s.edges ∙ sym t.edges) (λ v h. ap (λ (l : Label). l.edge.0) (u v (omega (arith, s.edges)))) in
      λ i. record { weights = weights i; depths = depths i; edges = edges i }

  defined_answers : Defined m c a → a ≡ entries_of m c
  unfolding entries_of
  defined_answers d =
      let g = columns_accepted c a d.accepted in
      let t = entries_sized m c g.table in
      let labels_are = defined_labels d in
      let count : (v : ℕ) → v < c.vertices → cell a.pieces v ≡ cell (entries_of m c).pieces v = λ v h.
      let has = subst (λ (b : Answers). HasPieces (hypergraph c) (labels b) v (cell a.pieces v)) labels_are (d.means v h).pieces in
      pieces_only (answers_fixpoint m c g.table) (lawful m) v (cell a.pieces v) has ∙ sym (entries_at m c g.table v) in
      let pieces_are = ext_get_or 0 a.pieces (entries_of m c).pieces (g.sized.pieces ∙ sym t.pieces) (λ v h. count v (omega (arith, g.sized.pieces))) in
      λ i. record { labels = labels_are i; pieces = pieces_are i }

  -- the test of 8, where the columns are accepted
  pub same_exactly : lent_acceptance c a ≡ Ok tt → (same_entries a (entries_of m c) ≡ true) ↔ AllMean m c a
  same_exactly p = (
    λ q v h.
        let e = sym (entries_true a (entries_of m c) q) in
        subst (λ (b : Entries). EntryMeans m c b v) e (demand_entry (entries_mean m c (columns_accepted c a p).table v)),
    λ f. subst (λ (b : Entries). same_entries a b ≡ true) (defined_answers (record { accepted = p; means = f })) (entries_refl a),
  )

  pub same_fails : lent_acceptance c a ≡ Ok tt → (same_entries a (entries_of m c) ≡ false) ↔ (¬ AllMean m c a)
  same_fails p = (λ q f. apart (sym q ∙ (same_exactly p).1 f), λ n. go (same_entries a (entries_of m c)) refl n)
    where
      go : (b : Bool) → same_entries a (entries_of m c) ≡ b → ¬ AllMean m c a → b ≡ false
      go true q n = absurd (n ((same_exactly p).0 q))
      go false q n = refl

  yes_defined : (x : Acceptance) (b : Bool) → lent_acceptance c a ≡ x → same_entries a (entries_of m c) ≡ b → told x b ≡ Ok true → Defined m c a
  yes_defined (Err r) b p q e = yes_refusal e
  yes_defined (Ok _) false p q e = yes_not_no e
  yes_defined (Ok _) true p q e = record { accepted = p; means = (same_exactly p).0 q }

  no_defined : (x : Acceptance) (b : Bool) → lent_acceptance c a ≡ x → same_entries a (entries_of m c) ≡ b → told x b ≡ Ok false → (lent_acceptance c a ≡ Ok tt) × ¬ AllMean m c a
  no_defined (Err r) b p q e = no_refusal e
  no_defined (Ok _) true p q e = yes_not_no (sym e)
  no_defined (Ok _) false p q e = (p, (same_fails p).0 q)

  -- "yes exactly if they are the ones defined above, whoever wrote them"
  pub yes_exactly : (checked m c a ≡ Ok true) ↔ Defined m c a
  unfolding checked
  yes_exactly = (yes_defined (lent_acceptance c a) (same_entries a (entries_of m c)) refl refl, λ d. rw (d.accepted, (same_exactly d.accepted).1 d.means))

  -- "Checking answers returns no, and not 8, for wrong ones"
  pub no_exactly : (checked m c a ≡ Ok false) ↔ ((lent_acceptance c a ≡ Ok tt) × ¬ AllMean m c a)
  unfolding checked
  no_exactly = (no_defined (lent_acceptance c a) (same_entries a (entries_of m c)) refl refl, λ d. rw (d.0, (same_fails d.0).1 d.1))
