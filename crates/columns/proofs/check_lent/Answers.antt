-- `columns::check_lent` meets its contract: the first test that fails gives the refusal. Assumes nothing.
use mathlib.Core.Path.{sym, ◌∙◌}
use borrow.Author.Tests.{eq-eqb, ne_eqb}
use Rattle.columns.specs.Acceptance.{lent_acceptance}
use Rattle.refusal.proofs.Passed.{passed_on}
use Rattle.columns.proofs.check_lent.Goals as goal

pub returns-in_err-check_table : goal.returns-in_err-check_table
unfolding lent_acceptance
returns-in_err-check_table c = rw (passed_on _ c.from_residual.ensures.1) (rw (sym c.check_table.ensures ∙ c.in_err-check_table.was))

pub returns-then-weights-n : goal.returns-then-weights-n
unfolding lent_acceptance
returns-then-weights-n c = rw (sym c.check_table.ensures ∙ c.in_ok-check_table.was, ne_eqb _ _ c.if-weights-n.true)

pub returns-then-depths-n : goal.returns-then-depths-n
unfolding lent_acceptance
returns-then-depths-n c = rw (sym c.check_table.ensures ∙ c.in_ok-check_table.was, eq-eqb _ _ c.if-weights-n.false, ne_eqb _ _ c.if-depths-n.true)

pub returns-then-edges-n : goal.returns-then-edges-n
unfolding lent_acceptance
returns-then-edges-n c =
    rw (
      sym c.check_table.ensures
          ∙ c.in_ok-check_table.was,
      eq-eqb _ _ c.if-weights-n.false,
      eq-eqb _ _ c.if-depths-n.false,
      ne_eqb _ _ c.if-edges-n.true,
    )

pub returns-then-pieces-n : goal.returns-then-pieces-n
unfolding lent_acceptance
returns-then-pieces-n c =
    rw (
      sym c.check_table.ensures
          ∙ c.in_ok-check_table.was,
      eq-eqb _ _ c.if-weights-n.false,
      eq-eqb _ _ c.if-depths-n.false,
      eq-eqb _ _ c.if-edges-n.false,
      ne_eqb _ _ c.if-pieces-n.true,
    )

pub returns : goal.returns
unfolding lent_acceptance
returns c =
    rw (
      sym c.check_table.ensures
          ∙ c.in_ok-check_table.was,
      eq-eqb _ _ c.if-weights-n.false,
      eq-eqb _ _ c.if-depths-n.false,
      eq-eqb _ _ c.if-edges-n.false,
      eq-eqb _ _ c.if-pieces-n.false,
    )
