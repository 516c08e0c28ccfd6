-- Best-first (document 000, Algorithm 1), as an executable definition over the three answer columns: `vertices` turns from all unmade; a turn takes the first of
-- the candidates of ready hyperedges whose head is unmade, and labels that head with it. This is what contracts equate the answer columns with.
-- Assumes nothing: these are definitions.
use Rattle.std.specs.Prelude.{ℕ, zero, suc, get_or, set, replicate, eqb, Some, None}
use Rattle.weights.specs.declared.Label.{Label}
use Rattle.weights.specs.Measures.{Algebra}
use Rattle.weights.specs.Choice.{pick}
use Rattle.weights.specs.Labels.{label, ahead_of}
use Rattle.columns.specs.Columns.{Answers}
use Rattle.provenance.specs.Hypergraph.{Hypergraph}
use Rattle.provenance.specs.Labelling.{weight_in, depth_in, offer_of}
use Rattle.weights.specs.Offers.{Offer}

-- the label of v
abbrev pub labels : Answers → ℕ → Label
labels a v = label (get_or a.weights v 0) (get_or a.depths v 0) (get_or a.edges v 0)

-- v is labelled l
abbrev pub put : Answers → ℕ → Label → Answers
put a v l = record { weights = set a.weights v l.weight.0; depths = set a.depths v l.depth; edges = set a.edges v l.edge.0 }

-- n vertices, all unmade
abbrev pub blank : ℕ → Answers
blank n = record { weights = replicate n 0; depths = replicate n 0; edges = replicate n 0 }

-- the first of two offers
abbrev pub earlier : Algebra → Offer → Offer → Offer
earlier A a None = a
earlier A None (Some b) = Some b
earlier A (Some a) (Some b) = pick (ahead_of A a b) (Some a) (Some b)

module _ (A : Algebra) (H : Hypergraph) (own : ℕ → ℕ) where
  -- the candidate of hyperedge e, where it is ready
  abbrev pub offer : (weight depth : ℕ → ℕ) → ℕ → Offer
  offer w d e = offer_of A (H.live e) (own e) (H.tail e) w d e

  -- the same, where its head is unmade
  unfoldable pub opening : (weight depth : ℕ → ℕ) → ℕ → Offer
  opening w d e = pick (eqb (d (H.head e)) 0) (offer w d e) None

  -- the first of those of the hyperedges below k
  unfoldable pub next : (weight depth : ℕ → ℕ) → ℕ → Offer
  next w d zero = None
  next w d (suc k) = earlier A (next w d k) (opening w d k)

  -- a turn of the algorithm's loop
  abbrev pub place : Answers → Offer → Answers
  place a None = a
  place a (Some l) = put a (H.head l.edge.0) l

  unfoldable pub turn : Answers → Answers
  turn a = place a (next (weight_in (labels a)) (depth_in (labels a)) H.edges)

  unfoldable pub turns : ℕ → Answers
  turns zero = blank H.vertices
  turns (suc k) = turn (turns k)

  -- the algorithm
  unfoldable pub best_first : Answers
  best_first = turns H.vertices
