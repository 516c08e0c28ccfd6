use Rattle.tozbierdu.proofs.Laws.{text_refused, text_table}
use Rattle.tozbierdu.proofs.tozbierdu_text_column.Goals as goal

pub returns-in-Err : goal.returns-in-Err
returns-in-Err c = text_refused c.check_text-reading.ensures c.in-Err.is c.column.ensures

pub returns-in-Ok : goal.returns-in-Ok
returns-in-Ok c = text_table c.check_text-reading.ensures c.in-Ok.is
