-- `settle::edges_right` meets its contract: the invariant: every hyperedge passed is right. Assumes nothing.
use mathlib.Core.Path.{◌≡◌}
use mathlib.Core.Bool.{true}
use Rattle.weights.specs.Measures.{algebra}
use Rattle.columns.specs.Columns.{answers}
use Rattle.provenance.specs.BestFirst.{labels}
use Rattle.provenance.specs.Local.{every}
use Rattle.settle.specs.Comparing.{edge_fits}
use Rattle.settle.proofs.edges_right.Given as goal

abbrev pub invariant-loop-i : goal.invariant-loop-i
invariant-loop-i l = every (edge_fits l.heads l.values l.heights (labels (answers l.entries.weights.now l.entries.depths.now l.entries.edges.now)) (algebra l.measure)) l.i ≡ true
