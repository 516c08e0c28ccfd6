-- `statistics::lowest` meets its contract: the divisor is above 0. Assumes nothing.
use mathlib.Core.Path.{ap}
use Prim.Native.Nat.{ℕ, ◌/◌}
use native.Mathlib.Omega.{arith}
use Rattle.statistics.specs.Fractions.{fraction, lowest}
use Rattle.statistics.proofs.Divisors.{gcd_above}
use Rattle.statistics.proofs.lowest.Goals as goal

pub nonzero_div-result : goal.nonzero_div-result
nonzero_div-result c = omega (arith, gcd_above c.args.numerator c.args.denominator c.requires)

pub nonzero_div-result-2 : goal.nonzero_div-result-2
nonzero_div-result-2 c = omega (arith, gcd_above c.args.numerator c.args.denominator c.requires)

pub returns : goal.returns
unfolding lowest
returns c = ap (λ (d : ℕ). fraction (c.args.numerator / d) (c.args.denominator / d)) c.gcd-d.ensures
