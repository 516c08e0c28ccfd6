-- The weighted hypergraph that a table is, each line with its weight function (document 000, Definition 7); the figure of a part is its best weight there
-- (Definition 10), up to the ceiling. In every measure. Assumes nothing: these are definitions.
use Rattle.std.specs.Prelude.{ℕ}
use Rattle.semiring.specs.Datalog.{Weighted}
use Rattle.provenance.specs.Hypergraph.{Hypergraph}
use Rattle.provenance.specs.Semirings.{Valuation}
use Rattle.provenance.specs.Program.{Fact}

-- Definition 7: an edge for each unstruck line, with its weight function
abbrev pub weighted : (U : Valuation) (H : Hypergraph) (own : ℕ → ℕ) → Weighted U.semiring
weighted U H own = record {
  Vertex = ℕ;
  Edge = Fact H;
  head = λ f. H.head f.edge;
  tail = λ f. H.tail f.edge;
  function = λ f xs. U.function (own f.edge) xs;
}
