use native.Mathlib.Omega.{arith}
use Rattle.bill.proofs.Repeats.{none_copied, copy_kept, one_copied, all_copied}
use Rattle.bill.proofs.repeat.Goals as goal

pub loop-k-init : goal.loop-k-init
loop-k-init c = none_copied c.requires

pub bounds-room-from : goal.bounds-room-from
bounds-room-from c = omega (arith, copy_kept c.requires c.loop-k.invariant)

pub bounds-room-at : goal.bounds-room-at
bounds-room-at c = omega (arith, copy_kept c.requires c.loop-k.invariant)

pub loop-k-preserved : goal.loop-k-preserved
loop-k-preserved c = one_copied c.requires c.loop-k.invariant c.loop-k-test.true

pub shape_of-room : goal.shape_of-room
shape_of-room c = copy_kept c.requires c.loop-k.invariant

pub returns : goal.returns
returns c = all_copied c.requires c.loop-k.invariant c.loop-k-test.false
