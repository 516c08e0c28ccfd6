-- Provenance: where the weight function is the product, as in cost and grade, the figure of a part is Definition 5's provenance, the sum over derivations of the
-- product over leaves, of the program that the table is (document 000, Definitions 5 and 8, Theorems 13 and 14), up to the ceiling; that of an unmade part is the
-- empty sum. Assumes nothing.
use mathlib.Core.Path.{◌≡◌, refl, sym, ◌∙◌, ap, ap₂, subst}
use mathlib.Core.List.{List, ◌∷◌, map, map-append}
use Prim.Native.Nat.{ℕ}
use Rattle.semiring.specs.Semiring.{Below, product}
use Rattle.semiring.proofs.Semiring.{product-append}
use Rattle.semiring.specs.Datalog.{Provenance}
use Rattle.weights.specs.declared.Label.{Label}
use Rattle.weights.specs.Measures.{Algebra, weigh}
use Rattle.weights.specs.Laws.{NoWorse, Lawful}
use Rattle.provenance.specs.Hypergraph.{Hypergraph, WellFormed, Derivation, Derivations, node, none, more, weight, weights, listing, listings}
use Rattle.provenance.specs.Labelling.{Fixpoint}
use Rattle.provenance.specs.Semirings.{Valuation, Valued}
use Rattle.provenance.proofs.Semirings.{Weighs, Computes}
use Rattle.provenance.proofs.Exact.{valued}
use Rattle.provenance.specs.Program.{part, program}
use Rattle.provenance.proofs.Program.{Owns, draw, read}

module _ {A : Algebra} {U : Valuation} (C : Computes A U) (H : Hypergraph) (own : ℕ → ℕ) where
  abbrev B : Weighs A U
  B = C.base

  node-product : (e : ℕ) (ws : List ℕ) (es : List ℕ) → product U.semiring (map U.element ws) ≡ product U.semiring (Owns U H own es)
      → U.element (weigh B.exact (own e) ws) ≡ product U.semiring (Owns U H own (e ∷ es))
  unfolding product
  node-product e ws es p = B.weighs (own e) ws ∙ C.times (own e) (map U.element ws) ∙ ap (U.semiring.times (U.element (own e))) p

  mutual
    unfolding weight listing product

    -- the exact weight of a derivation is the product of the own weights along its listing
    weight-product : {v : ℕ} (d : Derivation H v) → U.element (weight B.exact own d) ≡ product U.semiring (Owns U H own (listing d))
    weight-product (node e s h ds) = node-product e (weights B.exact own ds) (listings ds) (weights-product ds)

    weights-product : {vs : List ℕ} (ds : Derivations H vs) → product U.semiring (map U.element (weights B.exact own ds)) ≡ product U.semiring (Owns U H own (listings ds))
    weights-product none = refl
    weights-product (more d ds) =
        ap₂ U.semiring.times (weight-product d) (weights-product ds)
        ∙ sym (product-append B.laws (Owns U H own (listing d)) (Owns U H own (listings ds)))
        ∙ sym (ap (product U.semiring) (map-append (λ (e : ℕ). U.element (own e)) (listing d) (listings ds)))

  -- an exact weight that a derivation has, and that no derivation betters, is the provenance
  attained : {v : ℕ} (d : Derivation H v) → ((d' : Derivation H v) → NoWorse B.exact.leq (weight B.exact own d) (weight B.exact own d'))
      → Provenance (program U H own) (part v) (U.element (weight B.exact own d))
  attained {v} d low = record {
    lower = λ τ. let r = read U H own τ v refl in
        subst (Below U.semiring (U.element (weight B.exact own d)))
        (weight-product r.derivation ∙ sym (ap (product U.semiring) r.same)) (B.element_below (low r.derivation));
    greatest = λ y h. let t = draw U H own d in subst (Below U.semiring y) (ap (product U.semiring) t.same ∙ sym (weight-product d)) (h t.tree);
  }

  -- with no derivation the sum is empty
  vacant : {v : ℕ} → ¬ Derivation H v → Provenance (program U H own) (part v) U.semiring.nought
  vacant {v} n = record { lower = λ τ. absurd (n (read U H own τ v refl).derivation); greatest = λ y h. B.laws.plus_nought y }

  module _ (L : Lawful A) (wf : WellFormed H) {ls : ℕ → Label} (fix : Fixpoint A H own ls) where
    pub provenance : (v : ℕ) → Valued U (Provenance (program U H own) (part v)) (ls v)
    provenance v = valued B H own L wf fix (Provenance (program U H own) (part v)) v attained vacant
