-- `settle::vertices_right` meets its contract: the invariant: every vertex passed is right. Assumes nothing.
use mathlib.Core.Path.{◌≡◌}
use mathlib.Core.Bool.{true}
use Rattle.columns.specs.Columns.{answers}
use Rattle.provenance.specs.BestFirst.{labels}
use Rattle.provenance.specs.Local.{every}
use Rattle.settle.specs.Comparing.{vertex_fits}
use Rattle.settle.proofs.vertices_right.Given as goal

abbrev pub invariant-loop-i : goal.invariant-loop-i
invariant-loop-i l = every (vertex_fits l.heads l.values l.heights (labels (answers l.entries.weights.now l.entries.depths.now l.entries.edges.now))) l.i ≡ true
