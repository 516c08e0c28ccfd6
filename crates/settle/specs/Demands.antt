-- What the answers of a table mean: demand 2, of what settling leaves, and the rule of the answer check. Assumes nothing: these are definitions.
use Rattle.std.specs.Prelude.{ℕ, ◌≤◌, get_or}
use Rattle.weights.specs.declared.Measure.{Measure}
use Rattle.weights.specs.Measures.{algebra}
use Rattle.provenance.specs.Labelling.{Made}
use Rattle.provenance.specs.Means.{Means}
use Rattle.provenance.specs.Support.{ChosenDerivation, Supports}
use Rattle.provenance.specs.BestFirst.{labels}
use Rattle.provenance.specs.Pieces.{HasPieces}
use Rattle.columns.specs.Columns.{Entries, Columns, own_at}
use Rattle.tables.specs.Table.{hypergraph}
use Rattle.settle.specs.Worth.{Worth}

-- the entry of part v: it means what the paper says; its figure is what the source says; if it is made, its chosen make-up is thrifty and has its figure and depth; its
-- depth is at most n; and its piece count is that of its chosen make-up
pub record Demand2 (m : Measure) (c : Columns) (a : Entries) (v : ℕ) : Type 0 where
  pub means : Means (algebra m) (hypergraph c) (own_at c) (labels a.labels v) v
  pub worth : Worth m c (labels a.labels v) v
  pub chosen : Made (labels a.labels v) → ChosenDerivation (hypergraph c) (labels a.labels) v
  pub supports : (k : Made (labels a.labels v)) → Supports (algebra m) (own_at c) (labels a.labels) (chosen k).tree
  pub shallow : (labels a.labels v).depth ≤ c.vertices
  pub pieces : HasPieces (hypergraph c) (labels a.labels) v (get_or a.pieces v 0)
