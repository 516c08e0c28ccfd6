use native.Mathlib.Omega.{arith}
use Rattle.bestfirst.proofs.Whole.{underway, waits_on, turns_more, all-turns}
use Rattle.bestfirst.proofs.turns.Goals as goal

pub loop-init : goal.loop-init
loop-init c = (c.requires.unmade.blank, c.requires.waits)

pub turn-requires : goal.turn-requires
turn-requires c = underway _ _ c.requires.unmade.turning.usable.accepted _ c.loop.invariant.0 c.loop-test.true c.loop.invariant.1

pub loop-preserved : goal.loop-preserved
loop-preserved c = (
  turns_more _ _ c.requires.unmade.turning.usable.accepted _ c.loop.invariant.0 c.turn.ensures.0,
  waits_on _ _ c.requires.unmade.turning.usable.accepted _ c.loop.invariant.0 c.turn.ensures.1,
)

pub returns : goal.returns
returns c = all-turns _ _ c.loop.invariant.0 (omega arith)
