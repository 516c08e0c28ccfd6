use mathlib.Core.Path.{sym, ◌∙◌}
use native.Mathlib.Omega.{arith}
use Rattle.columns.proofs.Accepted.{edge_accepted}
use Rattle.columns.proofs.Laws.{edges_step, edges_stop, edges_end}
use Rattle.refusal.proofs.Passed.{passed_on}
use Rattle.columns.proofs.check_edges.Goals as goal

pub returns-in_err-check_edge : goal.returns-in_err-check_edge
returns-in_err-check_edge c = rw (passed_on _ c.from_residual.ensures.1) (edges_stop _ _ _ _ _ c.loop-i-test.true (sym c.check_edge.ensures ∙ c.in_err-check_edge.was) ∙ c.loop-i.invariant)

pub overflow_add-end : goal.overflow_add-end
overflow_add-end c = omega (arith, (edge_accepted _ _ _ _ _ _ _ _ _ (sym c.check_edge.ensures ∙ c.in_ok-check_edge.was)).within)

pub loop-i-preserved : goal.loop-i-preserved
loop-i-preserved c = edges_step _ _ _ _ c.loop-i-test.true (sym c.check_edge.ensures ∙ c.in_ok-check_edge.was) ∙ c.loop-i.invariant

pub returns : goal.returns
returns c = edges_end _ _ _ _ c.loop-i-test.false ∙ c.loop-i.invariant
