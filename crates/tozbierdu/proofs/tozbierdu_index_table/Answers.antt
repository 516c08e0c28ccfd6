use Rattle.tozbierdu.proofs.Laws.{indexed_number}
use Rattle.tozbierdu.proofs.tozbierdu_index_table.Goals as goal

pub returns : goal.returns
returns c = indexed_number c.index_table-x.ensures c.result.ensures
