use native.Mathlib.Omega.{arith}
use Rattle.minima.proofs.Laws.{rising_all, rising_under, climbing_first, climbing_under, climbing_up, climbing_none}
use Rattle.minima.proofs.raise.Goals as goal

pub least_under-least-requires : goal.least_under-least-requires
least_under-least-requires c = rising_under (rising_all c.args.q.now c.args.v c.requires.0 c.requires.1)

pub loop-i-init : goal.loop-i-init
loop-i-init c = climbing_first c.args.q.now c.args.v c.requires.0 c.requires.1 c.least_under-least.ensures

pub bounds-q-i : goal.bounds-q-i
bounds-q-i c = c.loop-i.invariant.inside

pub least_under-others-requires : goal.least_under-others-requires
least_under-others-requires c = climbing_under c.loop-i.invariant

pub loop-i-preserved : goal.loop-i-preserved
loop-i-preserved c = climbing_up c.loop-i.invariant c.loop-i-test.true c.least_under-others.ensures c.min-least.ensures

pub bounds-q-i-2 : goal.bounds-q-i-2
bounds-q-i-2 c = c.loop-i.invariant.inside

pub returns : goal.returns
returns c =
    let a = c.args in
    climbing_none a.q.now a.v c.loop-i.invariant (omega (arith, c.loop-i-test.false))
