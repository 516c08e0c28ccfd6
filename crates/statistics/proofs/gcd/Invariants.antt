-- `statistics::gcd` meets its contract. The invariant: the two numbers that are left have the greatest divisor of the two that were given. Assumes nothing.
use mathlib.Core.Path.{◌≡◌}
use Rattle.statistics.specs.Fractions.{gcd}
use Rattle.statistics.proofs.gcd.Given as goal

abbrev pub invariant-loop-low : goal.invariant-loop-low
invariant-loop-low l = gcd l.high l.low ≡ gcd l.a l.b

abbrev pub decreases-loop-low : goal.decreases-loop-low
decreases-loop-low l = l.low
