-- `settle::label` meets its contract: the labels are the table's, so they can be counted, and the counts are the fourth column. Assumes nothing.
use Rattle.columns.proofs.Accepted.{labels_accepted}
use Rattle.settle.proofs.Settled.{answers_countable, entered}
use Rattle.settle.proofs.label.Goals as goal

pub label_vertices-requires : goal.label_vertices-requires
label_vertices-requires c = labels_accepted c.requires

pub count_pieces-requires : goal.count_pieces-requires
count_pieces-requires c = answers_countable c.args.measure _ c.requires.table c.label_vertices.ensures c.requires.sized.pieces

pub returns : goal.returns
returns c = entered c.args.measure _ c.requires.table c.label_vertices.ensures c.count_pieces.ensures
