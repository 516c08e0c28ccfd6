use native.Mathlib.Omega.{arith}
use Rattle.minima.proofs.Laws.{left_all, left_up, left_idle, left_none, left_inside}
use Rattle.minima.proofs.lower.Goals as goal

pub loop-i-init : goal.loop-i-init
loop-i-init c = left_all c.args.v c.args.x c.requires.0 c.requires.1

pub bounds-q-i : goal.bounds-q-i
bounds-q-i c = left_inside c.loop-i.invariant

pub returns-then-x-key : goal.returns-then-x-key
returns-then-x-key c = left_idle c.loop-i.invariant c.loop-i-test.true c.if-x-key.true

pub bounds-q-i-in-loop-i : goal.bounds-q-i-in-loop-i
bounds-q-i-in-loop-i c = left_inside c.loop-i.invariant

pub loop-i-preserved : goal.loop-i-preserved
loop-i-preserved c = left_up c.loop-i.invariant c.loop-i-test.true c.if-x-key.false

pub returns : goal.returns
returns c = left_none c.loop-i.invariant (omega (arith, c.loop-i-test.false))
