-- `topological::label` meets its contract: the lines are linked, the columns are set to 0, which is unmade, and the walk labels them. Assumes nothing.
use lib.ListN.{length}
use Rattle.columns.specs.Columns.{Answers, Columns, columns, answers}
use Rattle.topological.proofs.Whole.{linkable, walkable, walked}
use Rattle.topological.proofs.label.Goals as goal

pub link-requires : goal.link-requires
link-requires c =
    let came : Answers = let a = c.args in answers a.weights.now a.depths.now a.edges.now in
    let table_of : Columns = let a = c.args in columns (length a.depths.now) a.table.now.heads.now a.table.now.own.now a.table.now.strikes.now a.table.now.spans.now a.table.now.tails.now in
    linkable {c = table_of} {a = came} c.requires

pub walk-requires : goal.walk-requires
walk-requires c =
    let came : Answers = let a = c.args in answers a.weights.now a.depths.now a.edges.now in
    let table_of : Columns = let a = c.args in columns (length a.depths.now) a.table.now.heads.now a.table.now.own.now a.table.now.strikes.now a.table.now.spans.now a.table.now.tails.now in
    walkable {c = table_of} {a = came} c.requires c.set_all.ensures c.set_all-2.ensures c.set_all-3.ensures c.link.ensures

pub returns : goal.returns
returns c =
    let came : Answers = let a = c.args in answers a.weights.now a.depths.now a.edges.now in
    let table_of : Columns = let a = c.args in columns (length a.depths.now) a.table.now.heads.now a.table.now.own.now a.table.now.strikes.now a.table.now.spans.now a.table.now.tails.now in
    walked {c = table_of} {a = came} c.requires c.set_all.ensures c.set_all-2.ensures c.set_all-3.ensures c.args.measure c.walk.ensures
