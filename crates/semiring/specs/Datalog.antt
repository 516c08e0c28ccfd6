-- Provenance as document 000 defines it: annotated Datalog programs and their derivation trees, provenance as the sum over these of the product over leaves
-- (Definition 5); weighted hypergraphs (Definition 7), the representation of a program as one (Definition 8), derivations and their weights (Definition 9) and best
-- weight (Definition 10). Best weight is the sum at source vertices too: the paper lets a part have many bought lines. Assumes nothing: these are definitions.
use Rattle.std.specs.Prelude.{◌≡◌, ◌⊎◌, List, [], ◌∷◌, ◌++◌, map}
use Rattle.std.proofs.Common.{inl, inr}
use Rattle.semiring.specs.Semiring.{Operations, Sum, product}

-- an annotated Datalog program, instantiated: its extensional facts with their annotations, and its rules
pub record Program (S : Operations) : Type 1 where
  pub Atom : Type 0
  pub Fact : Type 0
  pub states : Fact → Atom
  pub annotation : Fact → S.Carrier
  pub Rule : Type 0
  pub head : Rule → Atom
  pub body : Rule → List Atom

-- a derivation tree that yields an atom: a fact that states it, or a rule for it with a tree that yields each atom of its body
mutual
  pub data Proof {S : Operations} (q : Program S) : q.Atom → Type 0 where
    fact : {t : q.Atom} (f : q.Fact) → q.states f ≡ t → Proof q t
    rule : {t : q.Atom} (r : q.Rule) → q.head r ≡ t → Proofs q (q.body r) → Proof q t

  pub data Proofs {S : Operations} (q : Program S) : List q.Atom → Type 0 where
    none : Proofs q []
    more : {t : q.Atom} {ts : List q.Atom} → Proof q t → Proofs q ts → Proofs q (t ∷ ts)

module _ {S : Operations} {q : Program S} where
  -- the facts at the leaves, in order
  unfoldable mutual
    pub leaves : {t : q.Atom} → Proof q t → List q.Fact
    leaves (fact f h) = f ∷ []
    leaves (rule r h ps) = all-leaves ps

    pub all-leaves : {ts : List q.Atom} → Proofs q ts → List q.Fact
    all-leaves none = []
    all-leaves (more p ps) = leaves p ++ all-leaves ps

-- Definition 5: the sum, over the trees that yield t, of the product of their leaves' annotations
abbrev pub Provenance : {S : Operations} (q : Program S) → q.Atom → S.Carrier → Type 0
Provenance {S} q t = Sum S {I = Proof q t} (λ τ. product S (map q.annotation (leaves τ)))

-- Definition 7
pub record Weighted (S : Operations) : Type 1 where
  pub Vertex : Type 0
  pub Edge : Type 0
  pub head : Edge → Vertex
  pub tail : Edge → List Vertex
  pub function : Edge → List S.Carrier → S.Carrier

-- Definition 8: an edge for each rule, whose function is the product, and a nullary edge for each fact
abbrev pub representation : {S : Operations} → Program S → Weighted S
representation {S} q = record {
  Vertex = q.Atom;
  Edge = q.Rule ⊎ q.Fact;
  head = elim [ inl r ↦ q.head r | inr f ↦ q.states f ];
  tail = elim [ inl r ↦ q.body r | inr f ↦ [] ];
  function = elim [ inl r ↦ product S | inr f ↦ λ ws. q.annotation f ];
}

-- Definition 9
mutual
  pub data Tree {S : Operations} (G : Weighted S) : G.Vertex → Type 0 where
    node : {v : G.Vertex} (e : G.Edge) → G.head e ≡ v → Trees G (G.tail e) → Tree G v

  pub data Trees {S : Operations} (G : Weighted S) : List G.Vertex → Type 0 where
    none : Trees G []
    more : {v : G.Vertex} {vs : List G.Vertex} → Tree G v → Trees G vs → Trees G (v ∷ vs)

module _ {S : Operations} {G : Weighted S} where
  -- Definition 9: the weight of a derivation, its root's function of its subtrees' weights
  unfoldable mutual
    pub weight : {v : G.Vertex} → Tree G v → S.Carrier
    weight (node e h ts) = G.function e (weights ts)

    pub weights : {vs : List G.Vertex} → Trees G vs → List S.Carrier
    weights Trees.none = []
    weights (Trees.more t ts) = weight t ∷ weights ts

-- Definition 10: the sum of the weights of all derivations of v
abbrev pub BestWeight : {S : Operations} (G : Weighted S) → G.Vertex → S.Carrier → Type 0
BestWeight {S} G v = Sum S {I = Tree G v} weight

module _ {S : Operations} {q : Program S} where
  -- Lemma 11's two maps: the derivation of a tree, and the tree of a derivation
  unfoldable mutual
    pub derivation : {t : q.Atom} → Proof q t → Tree (representation q) t
    derivation (fact f h) = node (inr f) h Trees.none
    derivation (rule r h ps) = node (inl r) h (derivations ps)

    pub derivations : {ts : List q.Atom} → Proofs q ts → Trees (representation q) ts
    derivations Proofs.none = Trees.none
    derivations (Proofs.more p ps) = Trees.more (derivation p) (derivations ps)

  unfoldable mutual
    pub proof : {t : q.Atom} → Tree (representation q) t → Proof q t
    proof (node (inl r) h ts) = rule r h (proofs ts)
    proof (node (inr f) h ts) = fact f h

    pub proofs : {ts : List q.Atom} → Trees (representation q) ts → Proofs q ts
    proofs Trees.none = Proofs.none
    proofs (Trees.more t ts) = Proofs.more (proof t) (proofs ts)
