-- A part's figure in the answers of a table. Assumes nothing: this is a definition.
use Rattle.std.specs.Prelude.{ℕ}
use Rattle.weights.specs.declared.Measure.{Measure}
use Rattle.columns.specs.Columns.{Columns}
use Rattle.reprice.specs.Demand3.{labels_of}

abbrev pub figure_in : Measure → Columns → ℕ → ℕ
figure_in m c v = (labels_of m c v).weight.0
