-- Figures without the ceiling: a weight is the exact weight, capped; and at a fixpoint the best exact weight is attained, no derivation has less, and the label's
-- figure is its cap. Provenance and best weight both stand on this. Assumes nothing.
use mathlib.Core.Path.{◌≡◌, refl, sym, ◌∙◌, ap, ap₂}
use mathlib.Core.List.{List, ◌∷◌, map}
use Prim.Native.Nat.{ℕ}
use native.Mathlib.Omega.{arith}
use Rattle.weights.specs.declared.Label.{Label}
use Rattle.weights.specs.Measures.{Algebra, weigh}
use Rattle.weights.specs.Laws.{NoWorse, Lawful}
use Rattle.weights.proofs.Weighing.{no_worse_eq}
use Rattle.provenance.specs.Hypergraph.{Hypergraph, WellFormed, Derivation, Derivations, node, none, more, weight, weights}
use Rattle.provenance.specs.Labelling.{Made, Fixpoint}
use Rattle.provenance.proofs.LowerBound.{bound}
use Rattle.provenance.specs.Support.{ChosenDerivation}
use Rattle.provenance.proofs.Support.{chosen, supports}
use Rattle.provenance.specs.BestFirst.{labels, best_first}
use Rattle.provenance.proofs.Existence.{exists}
use Rattle.provenance.specs.Semirings.{Valuation, Valued}
use Rattle.provenance.proofs.Semirings.{Weighs}

module _ {A : Algebra} {U : Valuation} (W : Weighs A U) (H : Hypergraph) (own : ℕ → ℕ) where
  mutual
    unfolding weight

    pub weight_capped : {v : ℕ} (d : Derivation H v) → weight A own d ≡ U.cap (weight W.exact own d)
    weight_capped (node e s h ds) = ap (weigh A (own e)) (weights_capped ds) ∙ W.caps (own e) (weights W.exact own ds)

    weights_capped : {vs : List ℕ} (ds : Derivations H vs) → weights A own ds ≡ map U.cap (weights W.exact own ds)
    weights_capped none = refl
    weights_capped (more d ds) = ap₂ (λ (x : ℕ) (xs : List ℕ). x ∷ xs) (weight_capped d) (weights_capped ds)

  -- a derivation of v whose exact weight no derivation betters, and l's figure is that weight, capped
  pub record Attained (l : Label) (v : ℕ) : Type 0 where
    pub tree : Derivation H v
    pub low : (d : Derivation H v) → NoWorse W.exact.leq (weight W.exact own tree) (weight W.exact own d)
    pub figure : l.weight.0 ≡ U.cap (weight W.exact own tree)

  module _ (L : Lawful A) (wf : WellFormed H) {ls : ℕ → Label} (fix : Fixpoint A H own ls) where
    exact_fix : Fixpoint W.exact H own (labels (best_first W.exact H own))
    exact_fix = exists W.lawful own wf

    exact_least : {v : ℕ} (u : ChosenDerivation H (labels (best_first W.exact H own)) v) (d : Derivation H v)
        → NoWorse W.exact.leq (weight W.exact own u.tree) (weight W.exact own d)
    exact_least u d =
        let w = (supports W.lawful exact_fix u.tree u.follows).weighs in
        W.lawful.ordered.transitive (no_worse_eq W.lawful w) (bound W.lawful exact_fix d).low

    pub attains : (v : ℕ) → Made (ls v) → Attained (ls v) v
    attains v a =
        let t = chosen L fix v a in
        let u = chosen W.lawful exact_fix v (bound W.lawful exact_fix t.tree).made in
        let p : (ls v).weight.0 ≡ U.cap (weight W.exact own t.tree) = sym (supports L fix t.tree t.follows).weighs ∙ weight_capped t.tree in
        record {
          tree = u.tree;
          low = exact_least u;
          figure = L.ordered.antisymmetric
              (L.ordered.transitive (bound L fix u.tree).low (no_worse_eq L (weight_capped u.tree)))
              (L.ordered.transitive (W.cap_mono (exact_least u t.tree)) (no_worse_eq L (sym p)));
        }

    -- what is said of an exact weight that no derivation betters, and of no derivation at all, is what the label has
    pub valued : (Says : U.semiring.Carrier → Type 0) (v : ℕ)
        → ((d : Derivation H v) → ((d' : Derivation H v) → NoWorse W.exact.leq (weight W.exact own d) (weight W.exact own d')) → Says (U.element (weight W.exact own d)))
        → (¬ Derivation H v → Says U.semiring.nought) → Valued U Says (ls v)
    valued Says v attained vacant = record {
      made = λ k. let t = attains v k in (weight W.exact own t.tree, attained t.tree t.low, t.figure);
      unmade = λ z. vacant (λ d. absurd (omega (arith, z, (bound L fix d).made.deep)));
    }
