-- `minima::least` meets its contract: place 1 has the least key. Assumes nothing.
use native.Mathlib.Omega.{arith}
use Rattle.minima.proofs.Laws.{power_some, least_key_lem}
use Rattle.minima.proofs.least.Goals as goal

pub bounds-q-1 : goal.bounds-q-1
bounds-q-1 c = omega (arith, c.requires.sized, power_some c.requires.power)

pub returns : goal.returns
returns c = least_key_lem c.requires
