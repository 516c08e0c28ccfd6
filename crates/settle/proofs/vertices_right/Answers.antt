-- `settle::vertices_right` meets its contract: one vertex that is not right settles it, and past the end all are. Assumes nothing.
use mathlib.Core.Path.{◌≡◌, refl, sym, ◌∙◌, ap}
use native.Mathlib.Omega.{arith}
use lib.ListN.{length}
use Rattle.provenance.specs.Local.{every}
use Rattle.provenance.proofs.Local.{every_more, every_stop}
use Rattle.settle.proofs.vertices_right.Goals as goal

pub loop-i-init : goal.loop-i-init
unfolding every
loop-i-init c = refl

pub vertex_right-requires : goal.vertex_right-requires
vertex_right-requires c = (c.requires, omega arith)

pub returns-then-not-vertex_right : goal.returns-then-not-vertex_right
returns-then-not-vertex_right c = sym (every_stop _ _ _ (omega arith) (sym c.vertex_right.ensures ∙ c.if-not-vertex_right.true))

pub loop-i-preserved : goal.loop-i-preserved
loop-i-preserved c = every_more _ _ (sym c.vertex_right.ensures ∙ c.if-not-vertex_right.false) c.loop-i.invariant

pub returns : goal.returns
returns c =
    let e : c.loop-i.i ≡ length c.args.entries.now.depths.now = omega arith in
    sym c.loop-i.invariant ∙ ap (every _) e
