-- Lower bound: at a fixpoint, whatever has a make-up is made, at a figure no worse than the make-up's. The paper's "A part's best figure is the least over its
-- make-ups", in one direction. By induction on derivations. Assumes nothing.
use mathlib.Core.Path.{◌≡◌}
use mathlib.Core.List.{List}
use Prim.Native.Nat.{ℕ}
use Rattle.weights.specs.declared.Label.{Label}
use Rattle.weights.specs.Measures.{Algebra}
use Rattle.weights.specs.Laws.{NoWorse, Lawful}
use Rattle.weights.proofs.Weighing.{Pointwise, weigh_mono}
use Rattle.provenance.specs.Hypergraph.{Hypergraph, Stands, Derivation, Derivations, node, none, more, weight, weights}
use Rattle.provenance.specs.Labelling.{Made, AllMade, each, tail-weights, Ready, Fixpoint}

module _ (A : Algebra) {H : Hypergraph} (own : ℕ → ℕ) (ls : ℕ → Label) where
  -- v is made, and its label is no worse than d
  pub record Bound {v : ℕ} (d : Derivation H v) : Type 0 where
    pub made : Made (ls v)
    pub low : NoWorse A.leq (ls v).weight.0 (weight A own d)

  pub record Bounds {vs : List ℕ} (ds : Derivations H vs) : Type 0 where
    pub made : AllMade ls vs
    pub low : Pointwise A (tail-weights ls vs) (weights A own ds)

module _ {A : Algebra} {H : Hypergraph} {own : ℕ → ℕ} {ls : ℕ → Label} (L : Lawful A) (fix : Fixpoint A H own ls) where
  node_bound : {v : ℕ} (e : ℕ) (s : Stands H e) (h : H.head e ≡ v) (ds : Derivations H (H.tail e)) → Bounds A own ls ds → Bound A own ls (node {v = v} e s h ds)
  unfolding weight
  node_bound e s h ds b =
      let r : Ready H ls e = record { stands = s; tails = b.made } in
      record { made = rw h at (fix.made e r); low = rw (← h) (L.ordered.transitive (fix.ahead e r).weight (weigh_mono L L.ordered.reflexive b.low)) }

  mutual
    unfolding weights each

    pub bound : {v : ℕ} (d : Derivation H v) → Bound A own ls d
    bound (node e s h ds) = node_bound e s h ds (bounds ds)

    pub bounds : {vs : List ℕ} (ds : Derivations H vs) → Bounds A own ls ds
    bounds none = record { made = AllMade.none; low = Pointwise.none }
    bounds (more d ds) = record { made = AllMade.more (bound d).made (bounds ds).made; low = Pointwise.more (bound d).low (bounds ds).low }
