-- A part is unmade exactly if it has no make-up, and over exactly if it has one and the plain sum of every one is above the ceiling, in every measure. In grade none
-- is. Assumes nothing.
use mathlib.Core.Path.{◌≡◌, ap}
use mathlib.Core.Logic.{◌↔◌, ◌≢◌}
use Prim.Native.Nat.{ℕ, ◌≤◌, ◌<◌}
use native.Mathlib.Omega.{arith}
use native.Mathlib.Decide.{dec_le}
use Rattle.weights.specs.declared.Measure.{Measure}
use Rattle.weights.specs.declared.Measure.TheVariants.{Cost, Days, Grade}
use Rattle.weights.specs.declared.State.TheVariants.{Made, Over, Unmade}
use Rattle.weights.specs.declared.Label.{Label}
use Rattle.weights.specs.Figures.{greatest, ceiling, over, capped}
use Rattle.weights.specs.Labels.{unmade, label_state}
use Rattle.weights.proofs.Laws.{at_most, below_greatest, grade_lawful}
use Rattle.weights.proofs.Weighing.{weigh_within}
use Rattle.weights.specs.Measures.{Algebra, grade, algebra}
use Rattle.weights.proofs.States.{unmade_state, over_state, made_state}
use Rattle.provenance.specs.Hypergraph.{Hypergraph, Derivation, node, weight, weights, depth}
use Rattle.provenance.specs.Means.{Means, Derivable, underivable, derivable}
use Rattle.columns.specs.Columns.{Entries, Columns, own_at}
use Rattle.provenance.specs.BestFirst.{labels}
use Rattle.provenance.proofs.Sensitivity.{cost-total, days-total}
use Rattle.tables.specs.Table.{hypergraph}
use Rattle.columns.specs.Acceptance.{acceptance}
use Rattle.settle.specs.Settling.{entries_of, settled}
use Rattle.settle.proofs.Demands.{entries_mean, demand_2}
use Rattle.settle.specs.States.{uncapped, Dear, Affordable, StateMeans}
use Rattle.std.specs.Prelude.{Ok}

deep : {H : Hypergraph} {v : ℕ} (d : Derivation H v) → 0 < depth d
unfolding depth
deep (node e s h ds) = omega arith

-- depth 0 is that of a part with no make-up
module _ {A : Algebra} {H : Hypergraph} {own : ℕ → ℕ} {l : Label} {v : ℕ} where
  pub deep_made : Means A H own l v → 0 < l.depth → Derivation H v
  deep_made (underivable q n) h = absurd (omega (arith, ap (λ (x : Label). x.depth) q))
  deep_made (derivable k) h = k.shown

  pub made_deep : Means A H own l v → Derivation H v → 0 < l.depth
  made_deep (underivable q n) d = absurd (n d)
  made_deep (derivable k) d = omega (arith, deep k.shown, k.deep)

-- a make-up's grade is at most the greatest own figure
pub grade_most : {H : Hypergraph} (own : ℕ → ℕ) {v : ℕ} (t : Derivation H v) → weight grade own t ≤ greatest
unfolding weight
grade_most own (node e s h ds) = below_greatest (weigh_within grade_lawful (own e) (weights grade own ds))

-- the figure of a make-up is its plain sum, capped, and a label is not over where a make-up's sum is at most the ceiling
module _ {H : Hypergraph} (own : ℕ → ℕ) {v : ℕ} where
  weight-uncapped : (m : Measure) (t : Derivation H v) → weight (algebra m) own t ≡ capped (uncapped m own t)
  weight-uncapped Cost t = cost-total own t
  weight-uncapped Days t = days-total own t
  weight-uncapped Grade t = omega (arith, grade_most own t)

  not-over : (m : Measure) {l : Label} → Derivable (algebra m) H own l v → (t : Derivation H v) → uncapped m own t ≤ ceiling → l.weight.0 ≢ over
  not-over Cost k t h e = omega (arith, at_most (k.best t), cost-total own t)
  not-over Days k t h e = omega (arith, at_most (k.best t), days-total own t)
  not-over Grade k t h e = omega (arith, k.weighs, grade_most own k.shown)

  over_dear : (m : Measure) {l : Label} → Derivable (algebra m) H own l v → l.weight.0 ≡ over → (t : Derivation H v) → ceiling < uncapped m own t
  over_dear m k e t = go (dec_le (uncapped m own t) ceiling)
    where
      go : Dec (uncapped m own t ≤ ceiling) → ceiling < uncapped m own t
      go (yes h) = absurd (not-over m k t h e)
      go (no n) = omega arith

module _ (m : Measure) (c : Columns) (l : Label) (v : ℕ) where
  abbrev w : ℕ
  w = l.weight.0

  abbrev d : ℕ
  d = l.depth

  -- what l means, and where it is made
  abbrev Meant : Type 0
  Meant = Means (algebra m) (hypergraph c) (own_at c) l v

  abbrev Shown : Type 0
  Shown = Derivable (algebra m) (hypergraph c) (own_at c) l v

  blank_depth : l ≡ unmade → d ≡ 0
  blank_depth q = ap (λ (x : Label). x.depth) q

  shown_deep : Shown → 0 < d
  shown_deep k = omega (arith, deep k.shown, k.deep)

  unmade_means : Meant → (label_state l ≡ Unmade) ↔ (¬ Derivation (hypergraph c) v)
  unmade_means (underivable q n) = (λ e. n, λ k. (unmade_state w d).1 (blank_depth q))
  unmade_means (derivable k) = (λ e. absurd (omega (arith, (unmade_state w d).0 e, shown_deep k)), λ n. absurd (n k.shown))

  made_means : Meant → label_state l ≡ Made → Affordable m c v
  made_means (underivable q n) e = absurd (omega (arith, ((made_state w d).0 e).0, blank_depth q))
  made_means (derivable k) e = let n = ((made_state w d).0 e).1 in record { shown = k.shown; low = omega (arith, n, k.weighs, weight-uncapped (own_at c) m k.shown) }

  means_made : Meant → Affordable m c v → label_state l ≡ Made
  means_made (underivable q n) b = absurd (n b.shown)
  means_made (derivable k) b = (made_state w d).1 (shown_deep k, not-over (own_at c) m k b.shown b.low)

  over_means : Meant → label_state l ≡ Over → Dear m c v
  over_means (underivable q n) e = absurd (omega (arith, ((over_state w d).0 e).0, blank_depth q))
  over_means (derivable k) e = record { shown = k.shown; dear = over_dear (own_at c) m k ((over_state w d).0 e).1 }

  means_over : Meant → Dear m c v → label_state l ≡ Over
  means_over (underivable q n) b = absurd (n b.shown)
  means_over (derivable k) b = (over_state w d).1 (shown_deep k, omega (arith, b.dear k.shown, k.weighs, weight-uncapped (own_at c) m k.shown))

  -- of any label that means what the paper says
  pub means_state : Meant → StateMeans m c l v
  means_state k = record { made = (made_means k, means_made k); over = (over_means k, means_over k); unmade = unmade_means k }

-- of the answers of an accepted table
pub answers_state : (m : Measure) (c : Columns) → acceptance c ≡ Ok tt → (v : ℕ) → StateMeans m c (labels (entries_of m c).labels v) v
answers_state m c p v = means_state m c (labels (entries_of m c).labels v) v (entries_mean m c p v).means

-- of what settling leaves
pub settled_state : (m : Measure) (c : Columns) (a : Entries) → (settled m c a).result ≡ Ok tt → (v : ℕ) → StateMeans m c (labels (settled m c a).left.labels v) v
settled_state m c a q v = means_state m c (labels (settled m c a).left.labels v) v (demand_2 m c a q v).means
