use mathlib.Core.Path.{sym, ◌∙◌}
use borrow.Author.Tests.{eq-eqb, ne_eqb}
use Rattle.weights.proofs.State.of.Goals as goal

pub returns-then-depth-eq0 : goal.returns-then-depth-eq0
returns-then-depth-eq0 c = rw (eq-eqb _ _ c.if-depth-eq0.true)

pub returns-then-is_over : goal.returns-then-is_over
returns-then-is_over c = rw (ne_eqb _ _ c.if-depth-eq0.false, sym c.is_over.ensures ∙ c.if-is_over.true)

pub returns : goal.returns
returns c = rw (ne_eqb _ _ c.if-depth-eq0.false, sym c.is_over.ensures ∙ c.if-is_over.false)
