-- Support: at a fixpoint each made vertex has its chosen make-up, which is thrifty and has the label's figure, depth and line; and the listing of the chosen
-- make-up, the bill, can be computed from the labels. The paper's "Its chosen make-up uses the chosen line of every part in it". By induction on depth.
-- Assumes nothing.
use mathlib.Core.Path.{◌≡◌, refl, sym, ◌∙◌, ap, ap₂}
use mathlib.Core.List.{List, ◌∷◌, ◌++◌}
use Prim.Native.Nat.{ℕ, zero, suc, ◌+◌, ◌≤◌}
use native.Mathlib.Omega.{arith}
use Rattle.weights.specs.declared.Label.{Label}
use Rattle.weights.specs.Measures.{Algebra, weigh}
use Rattle.weights.specs.Laws.{Lawful}
use Rattle.weights.proofs.Weighing.{no_worse_eq}
use Rattle.provenance.specs.Hypergraph.{Hypergraph, Stands, Derivation, Derivations, node, none, more, weight, weights, Best, Thrifty, AllThrifty, depth, root, listing, listings}
use Rattle.provenance.specs.Hypergraph
use Rattle.provenance.specs.Labelling.{Made, AllMade, each, greatest_depth, tail-weights, deepest_in, candidate, Fixpoint}
use Rattle.provenance.specs.Means.{Follows, AllFollow}
use Rattle.provenance.proofs.LowerBound.{bound}
use Rattle.provenance.specs.Support.{bills, bill, Supports, ChosenDerivation}

node-bill : (H : Hypergraph) (ls : ℕ → Label) (v e : ℕ) (bs : List ℕ) (n fuel : ℕ) → (ls v).edge.0 ≡ e → n + 1 ≤ fuel
    → ((k : ℕ) → n ≤ k → bs ≡ bills (bill H ls k) (H.tail e)) → e ∷ bs ≡ bill H ls fuel v
unfolding bill
node-bill H ls v e bs n zero f h rest = absurd (omega arith)
node-bill H ls v e bs n (suc k) f h rest = rw f (ap (λ (xs : List ℕ). e ∷ xs) (rest k (omega arith)))

module _ {H : Hypergraph} (ls : ℕ → Label) where
  pub follows_root : {v : ℕ} (d : Derivation H v) → Follows ls d → root d ≡ (ls v).edge.0
  unfolding Follows root
  follows_root (node e s h ds) f = sym f.0

  mutual
    unfolding Follows listing bills depth Hypergraph.deepest

    -- the listing of the chosen make-up is the bill
    pub follows_bill : {v : ℕ} (d : Derivation H v) → Follows ls d → (fuel : ℕ) → depth d ≤ fuel → listing d ≡ bill H ls fuel v
    follows_bill {v} (node e s h ds) f fuel k = node-bill H ls v e (listings ds) (Hypergraph.deepest ds) fuel f.0 k (λ n j. follows_bills ds f.1 n j)

    follows_bills : {vs : List ℕ} (ds : Derivations H vs) → AllFollow ls ds → (fuel : ℕ) → Hypergraph.deepest ds ≤ fuel → listings ds ≡ bills (bill H ls fuel) vs
    follows_bills none f fuel k = refl
    follows_bills (more d ds) f fuel k = ap₂ ◌++◌ (follows_bill d f.0 fuel (omega arith)) (follows_bills ds f.1 fuel (omega arith))

module _ (A : Algebra) {H : Hypergraph} (own : ℕ → ℕ) (ls : ℕ → Label) where
  record AllSupport {vs : List ℕ} (ds : Derivations H vs) : Type 0 where
    weigh : weights A own ds ≡ tail-weights ls vs
    deep : Hypergraph.deepest ds ≡ deepest_in ls vs
    thrifty : AllThrifty A own ds

module _ (H : Hypergraph) (ls : ℕ → Label) where
  record Grown (vs : List ℕ) : Type 0 where
    trees : Derivations H vs
    follow : AllFollow ls trees

  grow : {k : ℕ} → ((v : ℕ) → Made (ls v) → (ls v).depth ≤ k → ChosenDerivation H ls v) → {vs : List ℕ} → AllMade ls vs → deepest_in ls vs ≤ k → Grown vs
  unfolding greatest_depth AllFollow
  grow f AllMade.none h = record { trees = none; follow = tt }
  grow f (AllMade.more {v = v} a bs) h =
      let t = f v a (omega arith) in
      let ts = grow f bs (omega arith) in
      record { trees = more t.tree ts.trees; follow = (t.follows, ts.follow) }

module _ {A : Algebra} {H : Hypergraph} {own : ℕ → ℕ} {ls : ℕ → Label} (L : Lawful A) (fix : Fixpoint A H own ls) where
  growth : (k : ℕ) (v : ℕ) → Made (ls v) → (ls v).depth ≤ k → ChosenDerivation H ls v
  unfolding Follows
  growth zero v a h = absurd (omega (arith, a.deep))
  growth (suc k) v a h =
      let c = fix.chosen v a in
      let e : (ls v).depth ≡ deepest_in ls (H.tail (ls v).edge.0) + 1 = ap (λ (l : Label). l.depth) c.given in
      let ts = grow H ls (growth k) c.ready.tails (omega arith) in
      record { tree = node (ls v).edge.0 c.ready.stands c.yields ts.trees; follows = (refl, ts.follow) }

  pub chosen : (v : ℕ) → Made (ls v) → ChosenDerivation H ls v
  chosen v a = growth (ls v).depth v a (omega arith)

  node_supports : {v : ℕ} (e : ℕ) (s : Stands H e) (h : H.head e ≡ v) (ds : Derivations H (H.tail e)) → (ls v).edge.0 ≡ e → AllSupport A own ls ds → Supports A own ls (node {v = v} e s h ds)
  unfolding weight depth Thrifty Best
  node_supports {v} e s h ds f fs =
      let d : Derivation H v = node {v = v} e s h ds in
      let g : ls v ≡ candidate A H own ls e = (fix.chosen v (bound L fix d).made).given ∙ ap (candidate A H own ls) f in
      let gw : (ls v).weight.0 ≡ weigh A (own e) (tail-weights ls (H.tail e)) = ap (λ (l : Label). l.weight.0) g in
      let w : weight A own d ≡ (ls v).weight.0 = cc in
      record { weighs = w; deep = cc; thrifty = ((λ d'. L.ordered.transitive (no_worse_eq L w) (bound L fix d').low), fs.thrifty) }

  mutual
    unfolding weight each Hypergraph.deepest greatest_depth Follows Thrifty

    pub supports : {v : ℕ} (d : Derivation H v) → Follows ls d → Supports A own ls d
    supports (node e s h ds) f = node_supports e s h ds f.0 (all_support ds f.1)

    all_support : {vs : List ℕ} (ds : Derivations H vs) → AllFollow ls ds → AllSupport A own ls ds
    all_support none f = record { weigh = refl; deep = refl; thrifty = tt }
    all_support (more d ds) f =
        let a = supports d f.0 in
        let b = all_support ds f.1 in
        record { weigh = cc; deep = cc; thrifty = (a.thrifty, b.thrifty) }
