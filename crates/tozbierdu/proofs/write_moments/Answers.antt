use Rattle.tozbierdu.proofs.Laws.{moments_written_lem, moments_unwritten}
use Rattle.tozbierdu.proofs.write_moments.Goals as goal

pub returns-then-room-ne4 : goal.returns-then-room-ne4
returns-then-room-ne4 c = let a = c.args in moments_unwritten a.moments a.room.now c.if-room-ne4.true

pub returns : goal.returns
returns c = moments_written_lem c.args.moments c.args.room.now c.if-room-ne4.false
