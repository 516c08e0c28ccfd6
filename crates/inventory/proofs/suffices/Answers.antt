use mathlib.Core.Path.{◌∙◌}
use native.Mathlib.Omega.{arith}
use Rattle.inventory.proofs.Taking.{holds_pass, holds_stop, holds_end}
use Rattle.inventory.proofs.suffices.Goals as goal

pub returns-then-count-stock : goal.returns-then-count-stock
returns-then-count-stock c = holds_stop _ _ _ c.loop-u-test.true (omega (arith, c.count.ensures, c.if-count-stock.true)) ∙ c.loop-u.invariant

pub loop-u-preserved : goal.loop-u-preserved
loop-u-preserved c = holds_pass _ _ _ c.loop-u-test.true (omega (arith, c.count.ensures, c.if-count-stock.false)) ∙ c.loop-u.invariant

pub returns : goal.returns
returns c = holds_end _ _ _ c.loop-u-test.false ∙ c.loop-u.invariant
