-- `compare::agrees` meets its contract, by whether the states are equal. Assumes nothing.
use mathlib.Core.Path.{sym, ◌∙◌}
use Rattle.compare.proofs.Rows.{state_differs, by_figure}
use Rattle.compare.proofs.agrees.Goals as goal

pub returns-then-eq : goal.returns-then-eq
returns-then-eq c = c.eq-then-eq.ensures ∙ by_figure c.args.first c.args.second (sym c.eq.ensures ∙ c.if-eq.true)

pub returns-else-eq : goal.returns-else-eq
returns-else-eq c = c.if-eq.false ∙ state_differs c.args.first c.args.second (sym c.eq.ensures ∙ c.if-eq.false)
