-- Hypergraphs and their derivations: the paper's table and its make-ups (document 000, Definitions 7 and 9). The own weights stand apart from the hypergraph,
-- so tables that differ in figures alone have the same derivations. Assumes nothing: these are definitions.
use Rattle.std.specs.Prelude.{◌≡◌, Bool, true, List, [], ◌∷◌, ◌++◌, ℕ, ◌+◌, ◌<◌, max}
use Rattle.weights.specs.Measures.{Algebra, weigh}
use Rattle.weights.specs.Laws.{NoWorse}

-- vertices are parts, hyperedges are lines; a hyperedge is live unless its line is struck
pub record Hypergraph : Type 0 where
  pub vertices : ℕ
  pub edges : ℕ
  pub head : ℕ → ℕ
  pub tail : ℕ → List ℕ
  pub live : ℕ → Bool

-- every head is a vertex
pub record WellFormed (H : Hypergraph) : Type 0 where
  pub heads : (e : ℕ) → e < H.edges → H.head e < H.vertices

-- e is an unstruck line
pub record Stands (H : Hypergraph) (e : ℕ) : Type 0 where
  pub numbered : e < H.edges
  pub unstruck : H.live e ≡ true

-- a make-up of v: an unstruck line with that head, and a make-up for each part that the line lists
mutual
  pub data Derivation (H : Hypergraph) : ℕ → Type 0 where
    node : {v : ℕ} (e : ℕ) → Stands H e → H.head e ≡ v → Derivations H (H.tail e) → Derivation H v

  pub data Derivations (H : Hypergraph) : List ℕ → Type 0 where
    none : Derivations H []
    more : {v : ℕ} {vs : List ℕ} → Derivation H v → Derivations H vs → Derivations H (v ∷ vs)

module _ {H : Hypergraph} (A : Algebra) (own : ℕ → ℕ) where
  -- a make-up's figure: from the line's own figure and the figures of its parts' make-ups, each occurrence counted
  unfoldable mutual
    pub weight : {v : ℕ} → Derivation H v → ℕ
    weight (node e s h ds) = weigh A (own e) (weights ds)

    pub weights : {vs : List ℕ} → Derivations H vs → List ℕ
    weights none = []
    weights (more d ds) = weight d ∷ weights ds

  -- d has the best figure of its part
  unfoldable pub Best : {v : ℕ} → Derivation H v → Type 0
  Best {v} d = (d' : Derivation H v) → NoWorse A.leq (weight d) (weight d')

  -- d is thrifty: each subtree has the best figure of its own part
  unfoldable mutual
    pub Thrifty : {v : ℕ} → Derivation H v → Type 0
    Thrifty (node {v = v} e s h ds) = Best (node {v = v} e s h ds) × AllThrifty ds

    pub AllThrifty : {vs : List ℕ} → Derivations H vs → Type 0
    AllThrifty none = Unit {0}
    AllThrifty (more d ds) = Thrifty d × AllThrifty ds

module _ {H : Hypergraph} where
  -- a line with no parts has depth 1, any other 1 more than its deepest part
  unfoldable mutual
    pub depth : {v : ℕ} → Derivation H v → ℕ
    depth (node e s h ds) = deepest ds + 1

    pub deepest : {vs : List ℕ} → Derivations H vs → ℕ
    deepest none = 0
    deepest (more d ds) = max (depth d) (deepest ds)

  -- the line at the root
  unfoldable pub root : {v : ℕ} → Derivation H v → ℕ
  root (node e s h ds) = e

  -- the lines, root first, then those of each listed part in the order listed: the bill
  unfoldable mutual
    pub listing : {v : ℕ} → Derivation H v → List ℕ
    listing (node e s h ds) = e ∷ listings ds

    pub listings : {vs : List ℕ} → Derivations H vs → List ℕ
    listings none = []
    listings (more d ds) = listing d ++ listings ds
