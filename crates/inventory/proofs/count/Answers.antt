-- `inventory::count` meets its contract. Assumes nothing.
use native.Mathlib.Omega.{arith}
use Rattle.provenance.proofs.Counting.{once_same, once_other}
use Rattle.inventory.proofs.Taking.{count_next, count_end}
use Rattle.inventory.proofs.count.Goals as goal
use Rattle.inventory.proofs.count.Goals.{then-x-v, else-x-v}

pub loop-x-preserved : goal.loop-x-preserved
loop-x-preserved c =
    let n = count_next c.args.v.0 c.args.list.now c.loop-x.x-index c.loop-x-test.true in
    elim c.if-x-v.branch [
      | then-x-v w ↦ omega (arith, n, w.times-is, once_same w.if-x-v.true)
      | else-x-v w ↦ omega (arith, n, w.times-is, once_other w.if-x-v.false)
    ]

pub returns : goal.returns
returns c = omega (arith, count_end c.args.v.0 c.args.list.now c.loop-x.x-index c.loop-x-test.false)
