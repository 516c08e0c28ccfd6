-- The waiting labels, as keys: for every unmade vertex the first of the candidates of its ready hyperedges. Document 000, Algorithm 1 (the queue of items to be
-- labelled). What a queue holds is said by `Queued`. Assumes nothing: these are definitions.
use Rattle.std.specs.Prelude.{ℕ, zero, suc, ◌≤◌, ◌<◌, min, ◌≡◌, List, eqb, Some, None}
use Rattle.weights.specs.declared.Measure.{Measure}
use Rattle.weights.specs.Choice.{pick}
use Rattle.weights.specs.Measures.{algebra}
use Rattle.provenance.specs.Hypergraph.{Hypergraph}
use Rattle.provenance.specs.BestFirst.{opening}
use Rattle.minima.specs.Minima.{none, leaves, key_in, Grouped, lowered}
use Rattle.queue.specs.Keys.{heavy, packed, key_of}
use Rattle.weights.specs.Offers.{Offer}

-- of k hyperedges with these keys and heads: the least key of those with head u
unfoldable pub least_with : (key head : ℕ → ℕ) → (u k : ℕ) → ℕ
least_with key head u zero = none
least_with key head u (suc k) = min (least_with key head u k) (pick (eqb (head k) u) (key k) none)

-- vertex v is offered a candidate, or none
abbrev pub offered : Measure → List ℕ → ℕ → Offer → List ℕ
offered m q v None = q
offered m q v (Some l) = lowered q v (packed m l)

module _ (m : Measure) (H : Hypergraph) (own weight depth : ℕ → ℕ) where
  -- the key of what hyperedge e has to offer
  abbrev pub key_at : ℕ → ℕ
  key_at e = key_of m (opening (algebra m) H own weight depth e)

  -- each vertex has the least key of its hyperedges: of a vertex that is made, none
  pub record Queued (q : List ℕ) : Type 0 where
    pub grouped : Grouped q
    pub waiting : (u : ℕ) → u < leaves q → key_in q u ≡ least_with key_at H.head u H.edges

-- labels of which every candidate fits in a key
pub record Fitted (w d : ℕ → ℕ) : Type 0 where
  pub weight : (v : ℕ) → w v < heavy
  pub depth : (v : ℕ) → d v ≤ 2046
