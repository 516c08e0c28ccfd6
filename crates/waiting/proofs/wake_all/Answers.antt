use native.Mathlib.Omega.{arith}
use Rattle.waiting.proofs.Steps.{enough, queue_on}
use Rattle.waiting.proofs.Walking.{wakeful, placed, walked, all_woken}
use Rattle.waiting.proofs.wake_all.Goals as goal

pub bounds-first-place : goal.bounds-first-place
bounds-first-place c = omega (arith, c.requires.1.1.sizes.first, c.requires.1.0, (enough c.requires.0).vertices)

pub bounds-next-i : goal.bounds-next-i
bounds-next-i c = omega (arith, placed c.requires.0 c.loop-l.invariant c.loop-l-test.true, c.loop-l.invariant.sizes.next)

pub wake-requires : goal.wake-requires
wake-requires c = (queue_on c.requires.0 c.loop-l.invariant.waiting, wakeful c.requires.0 c.loop-l.invariant c.loop-l-test.true)

pub loop-l-smaller : goal.loop-l-smaller
loop-l-smaller c = (walked c.requires.0 c.loop-l.invariant c.loop-l-test.true c.wake.ensures).fewer

pub loop-l-preserved : goal.loop-l-preserved
loop-l-preserved c = (walked c.requires.0 c.loop-l.invariant c.loop-l-test.true c.wake.ensures).on

pub returns : goal.returns
returns c = all_woken c.requires.0 c.loop-l.invariant c.loop-l-test.false
