use native.Mathlib.Omega.{arith}
use Rattle.writing.proofs.Widths.{width_more, width_one}
use Rattle.writing.proofs.number_width.Goals as goal

pub loop-rest-preserved : goal.loop-rest-preserved
loop-rest-preserved c = omega (arith, width_more _ c.loop-rest-test.true)

pub returns : goal.returns
returns c = omega (arith, width_one _ c.loop-rest-test.false)
