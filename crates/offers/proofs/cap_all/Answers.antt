use native.Mathlib.Omega.{arith}
use Rattle.columns.proofs.Filled.{filled_none}
use Rattle.offers.specs.Values.{below}
use Rattle.offers.proofs.Values.{fill_more}
use Rattle.offers.proofs.cap_all.Goals as goal

pub loop-i-init : goal.loop-i-init
unfolding below
loop-i-init c = filled_none _

pub loop-i-preserved : goal.loop-i-preserved
loop-i-preserved c =
    fill_more _ c.args.column.now c.loop-i.column c.loop-i.i c.cap.result (omega arith) c.loop-i.invariant c.cap.ensures
