-- `settle::label_vertices` meets its contract: the columns are set to 0, which is unmade, and best-first labels them. Assumes nothing.
use Rattle.settle.proofs.Settled.{all_unmade, labelled}
use Rattle.settle.proofs.label_vertices.Goals as goal

pub label_all-requires : goal.label_all-requires
label_all-requires c = all_unmade c.args.measure _ _ c.requires c.set_all.ensures c.set_all-2.ensures c.set_all-3.ensures

pub returns : goal.returns
returns c = labelled c.args.measure _ _ c.requires c.set_all.ensures c.set_all-2.ensures c.set_all-3.ensures c.label_all.ensures
