-- `offers::finishing` meets its contract: in grade the lesser counts. Assumes nothing.
use native.Mathlib.Omega.{arith}
use Rattle.offers.proofs.finishing.Goals as goal

pub returns-in-Grade : goal.returns-in-Grade
returns-in-Grade c = rw c.in-Grade.is (omega (arith, c.min.ensures))
