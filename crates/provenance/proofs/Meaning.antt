-- Meaning: every label of a fixpoint means what the paper says a part's entry is; so two fixpoints agree, and what is unique is the meaning and not the way
-- to it. The paper's "Make-ups, figures, depth", whole: best figure, thrifty, depth, chosen line, unmade. Assumes nothing.
use mathlib.Core.Path.{◌≡◌, refl, sym, ◌∙◌}
use mathlib.Core.List.{List}
use Prim.Native.Nat.{ℕ, ◌≤◌}
use native.Mathlib.Omega.{arith}
use native.Mathlib.Decide.{dec_le}
use Rattle.weights.specs.declared.Label.{Label}
use Rattle.weights.specs.Measures.{Algebra}
use Rattle.weights.specs.Laws.{NoWorse, Lawful}
use Rattle.weights.proofs.Weighing.{no_worse_eq}
use Rattle.weights.specs.Order.{Ahead}
use Rattle.provenance.specs.Hypergraph.{Hypergraph, Stands, Derivation, Derivations, node, none, more, weight, weights, Best, Thrifty, AllThrifty, depth, root}
use Rattle.provenance.specs.Hypergraph
use Rattle.provenance.specs.Labelling.{each, greatest_depth, tail-weights, deepest_in, candidate, Fixpoint}
use Rattle.provenance.specs.Means.{Derivable, Means, underivable, derivable}
use Rattle.provenance.proofs.LowerBound.{bound, bounds}
use Rattle.provenance.proofs.Support.{follows_root, chosen, supports}

module _ (A : Algebra) {H : Hypergraph} (own : ℕ → ℕ) (ls : ℕ → Label) where
  -- what holds of a thrifty derivation
  record Near {v : ℕ} (d : Derivation H v) : Type 0 where
    weighs : weight A own d ≡ (ls v).weight.0
    shallow : (ls v).depth ≤ depth d
    first : depth d ≤ (ls v).depth → (ls v).edge.0 ≤ root d

  record AllNear {vs : List ℕ} (ds : Derivations H vs) : Type 0 where
    weigh : weights A own ds ≡ tail-weights ls vs
    shallow : deepest_in ls vs ≤ Hypergraph.deepest ds

module _ {A : Algebra} {H : Hypergraph} {own : ℕ → ℕ} {ls : ℕ → Label} (L : Lawful A) (fix : Fixpoint A H own ls) where
  best_weighs : {v : ℕ} (d : Derivation H v) → Best A own d → weight A own d ≡ (ls v).weight.0
  unfolding Best
  best_weighs {v} d b =
      let t = chosen L fix v (bound L fix d).made in
      L.ordered.antisymmetric (L.ordered.transitive (b t.tree) (no_worse_eq L (supports L fix t.tree t.follows).weighs)) (bound L fix d).low

  node_near : {v : ℕ} (e : ℕ) (s : Stands H e) (h : H.head e ≡ v) (ds : Derivations H (H.tail e)) → Best A own (node {v = v} e s h ds) → AllNear A own ls ds → Near A own ls (node {v = v} e s h ds)
  unfolding weight depth root
  node_near {v} e s h ds b n =
      let d : Derivation H v = node {v = v} e s h ds in
      let w = best_weighs d b in
      let a : Ahead A (ls v) (candidate A H own ls e) = rw h at (fix.ahead e (record { stands = s; tails = (bounds L fix ds).made })) in
      let q : NoWorse A.leq (candidate A H own ls e).weight.0 (ls v).weight.0 = no_worse_eq L (cc) in
      record { weighs = w; shallow = omega (arith, a.depth q, n.shallow); first = λ k. a.edge q (omega (arith, n.shallow)) }

  mutual
    unfolding weight each Hypergraph.deepest greatest_depth Thrifty

    near : {v : ℕ} (d : Derivation H v) → Thrifty A own d → Near A own ls d
    near (node e s h ds) t = node_near e s h ds t.0 (all_near ds t.1)

    all_near : {vs : List ℕ} (ds : Derivations H vs) → AllThrifty A own ds → AllNear A own ls ds
    all_near none t = record { weigh = refl; shallow = omega arith }
    all_near (more d ds) t =
        let a = near d t.0 in
        let b = all_near ds t.1 in
        record { weigh = cc; shallow = omega arith }

  pub meaning : (v : ℕ) → Means A H own (ls v) v
  meaning v = go (dec_le 1 (ls v).depth)
    where
      go : Dec (1 ≤ (ls v).depth) → Means A H own (ls v) v
      go (yes a) =
          let t = chosen L fix v (record { deep = a }) in
          let f = supports L fix t.tree t.follows in
          derivable (record {
            shown = t.tree;
            thrifty = f.thrifty;
            weighs = f.weighs;
            deep = f.deep;
            rooted = follows_root ls t.tree t.follows;
            best = λ d. (bound L fix d).low;
            shallow = λ d k. (near d k).shallow;
            first = λ d k. (near d k).first;
          })
      go (no n) = underivable (fix.blank v (omega arith)) (λ d. n (bound L fix d).made.deep)

module _ {A : Algebra} {H : Hypergraph} {own : ℕ → ℕ} (L : Lawful A) where
  derivable_unique : {v : ℕ} (l l' : Label) → Derivable A H own l v → Derivable A H own l' v → l ≡ l'
  derivable_unique l l' a b =
      let f : l.weight.0 ≡ l'.weight.0 =
      L.ordered.antisymmetric
      (L.ordered.transitive (a.best b.shown) (no_worse_eq L b.weighs))
      (L.ordered.transitive (b.best a.shown) (no_worse_eq L a.weighs)) in
      let p = a.shallow b.shown b.thrifty in
      let q = b.shallow a.shown a.thrifty in
      let d : l.depth ≡ l'.depth = omega (arith, a.deep, b.deep) in
      let r = a.first b.shown b.thrifty (omega (arith, b.deep)) in
      let s = b.first a.shown a.thrifty (omega (arith, a.deep)) in
      let e : l.edge.0 ≡ l'.edge.0 = omega (arith, a.rooted, b.rooted) in
      λ i. record { weight = record { 0 = f i }; depth = d i; edge = record { 0 = e i } }

  -- a part has one entry
  pub means_unique : {v : ℕ} (l l' : Label) → Means A H own l v → Means A H own l' v → l ≡ l'
  means_unique l l' (underivable e n) (underivable e' n') = e ∙ sym e'
  means_unique l l' (underivable e n) (derivable b) = absurd (n b.shown)
  means_unique l l' (derivable a) (underivable e n) = absurd (n a.shown)
  means_unique l l' (derivable a) (derivable b) = derivable_unique l l' a b

  pub unique : (ls ls' : ℕ → Label) → Fixpoint A H own ls → Fixpoint A H own ls' → (v : ℕ) → ls v ≡ ls' v
  unique ls ls' fix fix' v = means_unique (ls v) (ls' v) (meaning L fix v) (meaning L fix' v)
