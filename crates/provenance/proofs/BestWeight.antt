-- Best weight: the trees of the weighted hypergraph that a table is are its derivations, with their exact weights; so at a fixpoint the figure of a part is its
-- best weight, up to the ceiling. In every measure. Assumes nothing.
use mathlib.Core.Path.{◌≡◌, refl, sym, ◌∙◌, ap, ap₂, subst}
use mathlib.Core.List.{List, ◌∷◌, map}
use Prim.Native.Nat.{ℕ}
use Rattle.semiring.specs.Semiring.{Below}
use Rattle.semiring.specs.Datalog.{Tree, Trees, BestWeight}
use Rattle.semiring.specs.Datalog
use Rattle.weights.specs.declared.Label.{Label}
use Rattle.weights.specs.Measures.{Algebra}
use Rattle.weights.specs.Laws.{NoWorse, Lawful}
use Rattle.provenance.specs.Hypergraph.{Hypergraph, WellFormed, Derivation, Derivations, node, none, more, weight, weights}
use Rattle.provenance.specs.Labelling.{Fixpoint}
use Rattle.provenance.specs.Semirings.{Valuation, Valued}
use Rattle.provenance.proofs.Semirings.{Weighs}
use Rattle.provenance.specs.Program.{Fact}
use Rattle.provenance.specs.BestWeight.{weighted}
use Rattle.provenance.proofs.Exact.{valued}

module _ {A : Algebra} {U : Valuation} (W : Weighs A U) (H : Hypergraph) (own : ℕ → ℕ) where
  -- a derivation as a tree of the same weight
  record Planted {v : ℕ} (d : Derivation H v) : Type 0 where
    tree : Tree (weighted U H own) v
    same : Datalog.weight tree ≡ U.element (weight W.exact own d)

  record AllPlanted {vs : List ℕ} (ds : Derivations H vs) : Type 0 where
    trees : Trees (weighted U H own) vs
    same : Datalog.weights trees ≡ map U.element (weights W.exact own ds)

  mutual
    unfolding weight Datalog.weight

    plant : {v : ℕ} (d : Derivation H v) → Planted d
    plant (node e s h ds) =
        let t = plants ds in
        record {
          tree = Tree.node (record { edge = e; stands = s }) h t.trees;
          same = ap (U.function (own e)) t.same ∙ sym (W.weighs (own e) (weights W.exact own ds));
        }

    plants : {vs : List ℕ} (ds : Derivations H vs) → AllPlanted ds
    plants none = record { trees = Trees.none; same = refl }
    plants (more d ds) =
        let a = plant d in
        let b = plants ds in
        record { trees = Trees.more a.tree b.trees; same = ap₂ (λ x xs. x ∷ xs) a.same b.same }

  -- a tree as a derivation of the same weight
  record Read {v : ℕ} (t : Tree (weighted U H own) v) : Type 0 where
    derivation : Derivation H v
    same : Datalog.weight t ≡ U.element (weight W.exact own derivation)

  record AllRead {vs : List ℕ} (ts : Trees (weighted U H own) vs) : Type 0 where
    derivations : Derivations H vs
    same : Datalog.weights ts ≡ map U.element (weights W.exact own derivations)

  read-node : {v : ℕ} (f : Fact H) (h : H.head f.edge ≡ v) (ts : Trees (weighted U H own) (H.tail f.edge)) → AllRead ts → Read (Tree.node {v = v} f h ts)
  unfolding weight Datalog.weight
  read-node f h ts r = record {
    derivation = node f.edge f.stands h r.derivations;
    same = ap (U.function (own f.edge)) r.same ∙ sym (W.weighs (own f.edge) (weights W.exact own r.derivations));
  }

  mutual
    unfolding weight Datalog.weight

    read : {v : ℕ} (t : Tree (weighted U H own) v) → Read t
    read (Tree.node f h ts) = read-node f h ts (reads ts)

    reads : {vs : List ℕ} (ts : Trees (weighted U H own) vs) → AllRead ts
    reads Trees.none = record { derivations = none; same = refl }
    reads (Trees.more t ts) =
        let a = read t in
        let b = reads ts in
        record { derivations = more a.derivation b.derivations; same = ap₂ (λ x xs. x ∷ xs) a.same b.same }

  -- an exact weight that a derivation has, and that no derivation betters, is the best weight
  attained : {v : ℕ} (d : Derivation H v) → ((d' : Derivation H v) → NoWorse W.exact.leq (weight W.exact own d) (weight W.exact own d'))
      → BestWeight (weighted U H own) v (U.element (weight W.exact own d))
  attained d low = record {
    lower = λ t. let r = read t in subst (Below U.semiring (U.element (weight W.exact own d))) (sym r.same) (W.element_below (low r.derivation));
    greatest = λ y h. let t = plant d in subst (Below U.semiring y) t.same (h t.tree);
  }

  -- with no derivation the sum is empty
  vacant : {v : ℕ} → ¬ Derivation H v → BestWeight (weighted U H own) v U.semiring.nought
  vacant n = record { lower = λ t. absurd (n (read t).derivation); greatest = λ y h. W.laws.plus_nought y }

  module _ (L : Lawful A) (wf : WellFormed H) {ls : ℕ → Label} (fix : Fixpoint A H own ls) where
    pub best_weight : (v : ℕ) → Valued U (BestWeight (weighted U H own) v) (ls v)
    best_weight v = valued W H own L wf fix (BestWeight (weighted U H own) v) v attained vacant
