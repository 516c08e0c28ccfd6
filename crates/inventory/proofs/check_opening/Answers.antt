use mathlib.Core.Path.{◌∙◌}
use Rattle.inventory.proofs.Running.{opening_pass, opening_stop, opening_end}
use Rattle.inventory.proofs.check_opening.Goals as goal

pub returns-then-held-gt-MOST_STOCK : goal.returns-then-held-gt-MOST_STOCK
returns-then-held-gt-MOST_STOCK c = opening_stop _ _ c.loop-i-test.true c.if-held-gt-MOST_STOCK.true ∙ c.loop-i.invariant

pub loop-i-preserved : goal.loop-i-preserved
loop-i-preserved c = opening_pass _ _ c.loop-i-test.true c.if-held-gt-MOST_STOCK.false ∙ c.loop-i.invariant

pub returns : goal.returns
returns c = opening_end _ _ c.loop-i-test.false ∙ c.loop-i.invariant
