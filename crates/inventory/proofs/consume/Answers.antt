use mathlib.Core.Path.{refl, ◌∙◌}
use native.Mathlib.Omega.{arith}
use Rattle.inventory.proofs.Taking.{suffices_enough, enough_held, enough_next, consumed_next, consumed_end}
use Rattle.inventory.proofs.consume.Goals as goal

pub loop-u-init : goal.loop-u-init
loop-u-init c = (refl, suffices_enough _ _ c.requires.1)

pub overflow_sub-stock : goal.overflow_sub-stock
overflow_sub-stock c = omega (arith, enough_held _ _ _ c.loop-u-test.true c.loop-u.invariant.1)

pub loop-u-preserved : goal.loop-u-preserved
loop-u-preserved c =
    (consumed_next _ _ _ c.loop-u-test.true ∙ c.loop-u.invariant.0, enough_next _ _ _ c.loop-u-test.true c.loop-u.invariant.1)

pub returns : goal.returns
returns c = consumed_end _ _ _ c.loop-u-test.false ∙ c.loop-u.invariant.0
