-- Document 000's Lemma 11, both halves, Lemma 12 and Theorem 13: provenance over the trees of a Datalog program is best weight in its hypergraph. Assumes nothing.
use mathlib.Core.Path.{◌≡◌, refl, sym, ◌∙◌, ap, ap₂}
use mathlib.Core.Logic.{inl, inr, ◌↔◌}
use mathlib.Core.List.{List, ◌++◌, map, map-append}
use Rattle.semiring.specs.Semiring.{Operations, Semiring, product}
use Rattle.semiring.proofs.Semiring.{sum_same, product-append}
use Rattle.semiring.specs.Datalog.{
  Program,
  Proof,
  Proofs,
  fact,
  rule,
  leaves,
  all-leaves,
  Provenance,
  representation,
  Tree,
  Trees,
  node,
  weight,
  weights,
  BestWeight,
  derivation,
  derivations,
  proof,
  proofs,
}

module _ {S : Operations} {q : Program S} where
  mutual
    unfolding proof derivation

    -- Lemma 11: the tree of the derivation of a tree
    pub proof-derivation : {t : q.Atom} (p : Proof q t) → proof (derivation p) ≡ p
    proof-derivation (fact f h) = refl
    proof-derivation (rule r h ps) = ap (rule r h) (proofs-derivations ps)

    proofs-derivations : {ts : List q.Atom} (ps : Proofs q ts) → proofs (derivations ps) ≡ ps
    proofs-derivations Proofs.none = refl
    proofs-derivations (Proofs.more p ps) = ap₂ Proofs.more (proof-derivation p) (proofs-derivations ps)

  mutual
    unfolding proof derivation

    -- Lemma 11: the derivation of the tree of a derivation
    pub derivation-proof : {t : q.Atom} (τ : Tree (representation q) t) → derivation (proof τ) ≡ τ
    derivation-proof (node (inl r) h ts) = ap (node (inl r) h) (derivations-proofs ts)
    derivation-proof (node (inr f) h Trees.none) = refl

    derivations-proofs : {ts : List q.Atom} (τs : Trees (representation q) ts) → derivations (proofs τs) ≡ τs
    derivations-proofs Trees.none = refl
    derivations-proofs (Trees.more t ts) = ap₂ Trees.more (derivation-proof t) (derivations-proofs ts)

module _ {S : Operations} (L : Semiring S) (q : Program S) where
  -- the product of the annotations of fs
  abbrev annotations : List q.Fact → S.Carrier
  annotations fs = product S (map q.annotation fs)

  annotations_append : (fs gs : List q.Fact) → annotations (fs ++ gs) ≡ S.times (annotations fs) (annotations gs)
  annotations_append fs gs = ap (product S) (map-append q.annotation fs gs) ∙ product-append L (map q.annotation fs) (map q.annotation gs)

  mutual
    unfolding weight leaves product proof

    -- Lemma 12: the weight of a derivation is the product over the leaves of its tree
    pub lemma_12 : {t : q.Atom} (τ : Tree (representation q) t) → weight τ ≡ product S (map q.annotation (leaves (proof τ)))
    lemma_12 (node (inl r) h ts) = subtrees ts
    lemma_12 (node (inr f) h ts) = sym (L.times-one (q.annotation f))

    subtrees : {ts : List q.Atom} (τs : Trees (representation q) ts) → product S (weights τs) ≡ annotations (all-leaves (proofs τs))
    subtrees Trees.none = refl
    subtrees (Trees.more τ τs) = ap₂ S.times (lemma_12 τ) (subtrees τs) ∙ sym (annotations_append (leaves (proof τ)) (all-leaves (proofs τs)))

  -- the same of the derivation of a tree, by Lemma 11
  tree_weight : {t : q.Atom} (p : Proof q t) → annotations (leaves p) ≡ weight (derivation p)
  tree_weight p = sym (lemma_12 (derivation p) ∙ ap (λ (x : Proof q _). annotations (leaves x)) (proof-derivation p))

  -- Theorem 13
  pub theorem_13 : (t : q.Atom) (x : S.Carrier) → Provenance q t x ↔ BestWeight (representation q) t x
  theorem_13 t x = (
    sum_same S _ _ (λ p. (derivation p, tree_weight p)) (λ τ. (proof τ, sym (lemma_12 τ))) x,
    sum_same S _ _ (λ τ. (proof τ, lemma_12 τ)) (λ p. (derivation p, sym (tree_weight p))) x,
  )
