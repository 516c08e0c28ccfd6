use Rattle.waiting.proofs.Steps.{queue_on}
use Rattle.waiting.proofs.Starts.{nothing-waits, all_started}
use Rattle.waiting.proofs.start.Goals as goal

pub loop-i-init : goal.loop-i-init
loop-i-init c = nothing-waits c.requires.1

pub begin-requires : goal.begin-requires
begin-requires c = (queue_on c.requires.0 c.loop-i.invariant.waiting, (c.loop-i-test.true, c.loop-i.invariant))

pub returns : goal.returns
returns c = all_started c.loop-i.invariant c.loop-i-test.false
