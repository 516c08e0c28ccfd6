use Rattle.tozbierdu.proofs.Laws.{counts_written_lem, counts_unwritten}
use Rattle.tozbierdu.proofs.write_counts.Goals as goal

pub returns-then-room-ne2 : goal.returns-then-room-ne2
returns-then-room-ne2 c = let a = c.args in counts_unwritten a.counts a.room.now c.if-room-ne2.true

pub returns : goal.returns
returns c = let a = c.args in counts_written_lem a.counts a.room.now c.if-room-ne2.false
