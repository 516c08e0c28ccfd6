-- Two accepted tables that differ in own figures alone have one hypergraph, so what is proved of its fixpoints holds of their answers: the bound of request 2026-11, and of demand 3
-- what does not ask which figures differ. Assumes nothing.
use mathlib.Core.Path.{◌≡◌, sym, ap, subst}
use mathlib.Core.Logic.{◌↔◌}
use mathlib.Core.List.{List}
use Prim.Native.Nat.{ℕ, ◌+◌, ◌*◌, ◌≤◌, ◌<◌}
use native.Mathlib.Omega.{arith}
use native.Mathlib.Decide.{dec_le}
use lib.IntN.{pos}
use lib.ListN.{length}
use Rattle.weights.specs.declared.Measure.{Measure}
use Rattle.weights.specs.declared.Measure.TheVariants.{Cost}
use Rattle.weights.specs.declared.State.TheVariants as state
use Rattle.weights.specs.declared.Label.{Label}
use Rattle.weights.specs.Figures.{over}
use Rattle.weights.specs.Measures.{algebra}
use Rattle.weights.specs.Labels.{label_state}
use Rattle.weights.proofs.Laws.{lawful, below_over}
use Rattle.weights.proofs.States.{unmade_state, made_state}
use Rattle.provenance.specs.Hypergraph.{Hypergraph, Derivation, listing}
use Rattle.provenance.specs.Labelling.{Made, Fixpoint}
use Rattle.provenance.specs.Counting.{count, Raised, bill_change}
use Rattle.provenance.specs.Sensitivity.{MadeWithin}
use Rattle.provenance.proofs.Counting.{AllBelow, raised_change}
use Rattle.provenance.proofs.Existence.{label_within}
use Rattle.provenance.proofs.Sensitivity.{same_made, listing_below, cost_change}
use Rattle.columns.specs.Columns.{Columns, columns, own_at, with_own}
use Rattle.columns.specs.Acceptance.{acceptance}
use Rattle.columns.proofs.Accepted.{table_accepted}
use Rattle.columns.proofs.Repriced.{own_here, own_elsewhere}
use Rattle.tables.specs.Table.{hypergraph}
use Rattle.settle.proofs.Demands.{answers_fixpoint}
use Rattle.reprice.specs.Demand3.{labels_of, state_in, Pair}
use Rattle.reprice.specs.Revision.{Revised, Revision}
use Rattle.std.specs.Prelude.{Ok}

-- a part that is unmade by one labelling is by another that makes no more
zero_kept : (ls ls' : ℕ → Label) (v : ℕ) → (Made (ls' v) → Made (ls v)) → (ls v).depth ≡ 0 → (ls' v).depth ≡ 0
zero_kept ls ls' v f z = go (dec_le 1 (ls' v).depth)
  where
    go : Dec (1 ≤ (ls' v).depth) → (ls' v).depth ≡ 0
    go (yes k) = absurd (omega (arith, (f (record { deep = k })).deep))
    go (no n) = omega arith

unmade_in : (ls ls' : ℕ → Label) (v : ℕ) → (Made (ls' v) → Made (ls v)) → label_state (ls v) ≡ state.Unmade → label_state (ls' v) ≡ state.Unmade
unmade_in ls ls' v f s = (unmade_state (ls' v).weight.0 (ls' v).depth).1 (zero_kept ls ls' v f ((unmade_state (ls v).weight.0 (ls v).depth).0 s))

-- what the state made tells
pub made_within : (m : Measure) {H : Hypergraph} {own : ℕ → ℕ} {ls : ℕ → Label} → Fixpoint (algebra m) H own ls → (v : ℕ) → label_state (ls v) ≡ state.Made → MadeWithin (ls v)
made_within m {ls = ls} fix v p =
    let t = (made_state (ls v).weight.0 (ls v).depth).0 p in
    let k : Made (ls v) = record { deep = t.0 } in
    let n : ¬ ((ls v).weight.0 ≡ over) = t.1 in
    record { made = k; low = omega (arith, below_over m (label_within (lawful m) fix v k)) }

-- the table with other own figures
abbrev pub with_figures : Columns → List ℕ → Columns
with_figures c own' = columns c.vertices c.heads own' c.strikes c.spans c.tails

module _ (m : Measure) (c : Columns) (own' : List ℕ) (p : acceptance c ≡ Ok tt) (p' : acceptance (with_figures c own') ≡ Ok tt) where
  pub old_fixpoint : Fixpoint (algebra m) (hypergraph c) (own_at c) (labels_of m c)
  old_fixpoint = answers_fixpoint m c p

  pub new_fixpoint : Fixpoint (algebra m) (hypergraph c) (own_at (with_figures c own')) (labels_of m (with_figures c own'))
  new_fixpoint = answers_fixpoint m (with_figures c own') p'

  pub unmade_both : (v : ℕ) → (state_in m c v ≡ state.Unmade) ↔ (state_in m (with_figures c own') v ≡ state.Unmade)
  unmade_both v = (
    unmade_in (labels_of m c) (labels_of m (with_figures c own')) v (same_made (lawful m) new_fixpoint old_fixpoint v),
    unmade_in (labels_of m (with_figures c own')) (labels_of m c) v (same_made (lawful m) old_fixpoint new_fixpoint v),
  )

revision : (c : Columns) (own' : List ℕ) → acceptance c ≡ Ok tt → acceptance (with_figures c own') ≡ Ok tt → Revision c (with_figures c own')
revision c own' p p' =
    let fix = old_fixpoint Cost c own' p p' in
    let fix' = new_fixpoint Cost c own' p p' in
    record {
      unmade = unmade_both Cost c own' p p';
      changes = λ v k k' t f t' f'. cost_change fix fix' (made_within Cost fix v k) (made_within Cost fix' v k') t t' f f';
    }

other_figures : (c c' : Columns) → Revised c c' → c' ≡ with_figures c c'.own
other_figures c c' r = λ i. columns (r.vertices i) (r.heads i) c'.own (r.strikes i) (r.spans i) (r.tails i)

-- the bound of a price letter
pub cost_revision : (c c' : Columns) → Revised c c' → Revision c c'
cost_revision c c' r =
    let e = other_figures c c' r in
    subst (λ (x : Columns). Revision c x) (sym e) (revision c c'.own r.accepted (subst (λ (x : Columns). acceptance x ≡ Ok tt) e r.accepted'))

-- one line raised by d ------------------------------------------------------------------------------------------------------------------------------------------------

module _ (c : Columns) (e d : ℕ) (p : acceptance c ≡ Ok tt) (n : e < length c.heads) where
  pub raised_here : own_at (with_own c e (own_at c e + d)) e ≡ own_at c e + d
  raised_here = own_here c e (own_at c e + d) (omega (arith, (table_accepted c p).own, n))

  pub line_raised : Raised (own_at c) (own_at (with_own c e (own_at c e + d))) e d
  line_raised = record { here = raised_here; elsewhere = own_elsewhere c e (own_at c e + d) }

module _ (c c' : Columns) (e d : ℕ) (p : Pair c c' e d) where
  -- is a letter
  pub pair_revised : Revised c c'
  pair_revised = record {
    accepted = p.accepted;
    accepted' = p.accepted';
    vertices = ap (λ (x : Columns). x.vertices) p.raised;
    heads = ap (λ (x : Columns). x.heads) p.raised;
    strikes = ap (λ (x : Columns). x.strikes) p.raised;
    spans = ap (λ (x : Columns). x.spans) p.raised;
    tails = ap (λ (x : Columns). x.tails) p.raised;
  }

  pair_raised : Raised (own_at c) (own_at c') e d
  pair_raised = subst (λ (x : Columns). Raised (own_at c) (own_at x) e d) (sym p.raised) (line_raised c e d p.accepted p.numbered)

  -- whose two sums are d times the line's count
  pub one_line : (v : ℕ) (t : Derivation (hypergraph c) v) (t' : Derivation (hypergraph c') v) →
      let n = length c.heads in
      (bill_change (own_at c) (own_at c') n (listing t) ≡ pos (d * count e (listing t))) × (bill_change (own_at c) (own_at c') n (listing t') ≡ pos (d * count e (listing t')))
  one_line v t t' = (
    raised_change pair_raised (listing_below t),
    raised_change pair_raised (subst (λ (k : ℕ). AllBelow k (listing t')) (ap (λ (x : Columns). length x.heads) p.raised) (listing_below t')),
  )
