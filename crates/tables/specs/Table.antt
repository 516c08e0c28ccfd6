-- The hypergraph that the columns of a table mean. The paper's "The table". Assumes nothing: this is a definition.
use Rattle.std.specs.Prelude.{not, length}
use Rattle.weights.specs.Figures.{is_struck_mark}
use Rattle.provenance.specs.Hypergraph.{Hypergraph}
use Rattle.columns.specs.Columns.{Columns, head_at, strike_at, tail_at}

-- the table: gaps between spans are in no tail, and a line that is struck yields nothing, whatever its figure
abbrev pub hypergraph : Columns → Hypergraph
hypergraph c = record { vertices = c.vertices; edges = length c.heads; head = head_at c; tail = tail_at c; live = λ e. not (is_struck_mark (strike_at c e)) }
