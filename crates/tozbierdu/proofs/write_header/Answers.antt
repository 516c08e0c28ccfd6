use Rattle.tozbierdu.proofs.Laws.{header_written_lem, header_unwritten}
use Rattle.tozbierdu.proofs.write_header.Goals as goal

pub returns-then-room-ne4 : goal.returns-then-room-ne4
returns-then-room-ne4 c = let a = c.args in header_unwritten a.header a.room.now c.if-room-ne4.true

pub returns : goal.returns
returns c = let a = c.args in header_written_lem a.header a.room.now c.measure_number-number.ensures c.if-room-ne4.false
