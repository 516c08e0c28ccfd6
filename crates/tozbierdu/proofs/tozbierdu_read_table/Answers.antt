use Rattle.tozbierdu.proofs.Laws.{read_refused, read_table}
use Rattle.tozbierdu.proofs.tozbierdu_read_table.Goals as goal

pub returns-in-Err : goal.returns-in-Err
returns-in-Err c =
    read_refused _ c.read_table-reading.ensures
    c.in-Err.is c.result.ensures

pub returns-in-Ok : goal.returns-in-Ok
returns-in-Ok c = read_table _ c.read_table-reading.ensures c.in-Ok.is c.write_header.ensures
