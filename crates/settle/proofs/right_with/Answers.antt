-- `settle::right_with` meets its contract: its columns have a place for every line. Assumes nothing.
use native.Mathlib.Omega.{arith}
use Rattle.settle.proofs.right_with.Goals as goal

pub right_in-requires : goal.right_in-requires
right_in-requires g c = record { turning = c.requires.0; values = omega (arith, c.requires.1.0); heights = omega (arith, c.requires.1.0) }
