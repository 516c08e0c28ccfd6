-- `compare::put_settled` meets its contract, by what settling returned. Assumes nothing.
use native.Mathlib.Omega.{arith}
use Rattle.columns.specs.Columns.{Entries, Columns, columns, entries}
use Rattle.columns.specs.Given.{entries_in}
use Rattle.compare.proofs.Said.{replied_as, settled_refused, reply_rows}
use Rattle.compare.proofs.put_settled.Goals as goal

pub returns-in-Err : goal.returns-in-Err
returns-in-Err c =
    let one : Entries = entries_in c.args.first.now in
    let table_of : Columns = let a = c.args in columns a.k a.table.now.heads.now a.table.now.own.now a.table.now.strikes.now a.table.now.spans.now a.table.now.tails.now in
    let two : Entries = let a = c.args in entries a.figures.now a.levels.now a.roots.now a.counts.now in
    let a = c.args in
    replied_as _ _ _ (settled_refused a.n a.k one a.measure table_of two _ _ c.settle-answer.ensures _ c.in-Err.is) c.put_second_refusal.ensures

pub put_differences-width-requires : goal.put_differences-width-requires
put_differences-width-requires c =
    let e = c.max-parts.ensures in
    let l = c.requires.most_reply_in_bounds in
    let n = c.requires.n_le_most_vertices in
    let k = c.requires.k_le_most_vertices in
    omega arith

pub returns : goal.returns
returns c =
    let one : Entries = entries_in c.args.first.now in
    let table_of : Columns = let a = c.args in columns a.k a.table.now.heads.now a.table.now.own.now a.table.now.strikes.now a.table.now.spans.now a.table.now.tails.now in
    let two : Entries = let a = c.args in entries a.figures.now a.levels.now a.roots.now a.counts.now in
    let a = c.args in
    reply_rows a.n a.k one a.measure table_of two _ _ c.settle-answer.ensures c.in-Ok.is _ c.max-parts.ensures _ _ _ c.put_differences-width.ensures
