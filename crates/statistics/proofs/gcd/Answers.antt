use mathlib.Core.Path.{sym, ◌∙◌}
use native.Mathlib.Omega.{arith}
use Rattle.statistics.proofs.Divisors.{gcd_end, gcd_step}
use Rattle.statistics.proofs.gcd.Goals as goal

pub loop-low-preserved : goal.loop-low-preserved
loop-low-preserved c = gcd_step _ _ (omega arith) ∙ c.loop-low.invariant

pub returns : goal.returns
returns c = sym (gcd_end _ _ (omega arith)) ∙ c.loop-low.invariant
