-- `append::check_held` meets its contract: refused by the index, or else as the answers are. Assumes nothing.
use mathlib.Core.Path.{sym, ◌∙◌}
use Rattle.columns.specs.Columns.{Entries, Columns, columns, entries}
use Rattle.append.proofs.Lists.{holding_checkable, held_told, held_refused, held_right, held_wrong}
use Rattle.refusal.proofs.Passed.{passed_on}
use Rattle.append.proofs.check_held.Goals as goal

pub check_index-requires : goal.check_index-requires
check_index-requires c =
    let came : Entries = let a = c.args in entries a.entries.now.weights.now a.entries.now.depths.now a.entries.now.edges.now a.entries.now.pieces.now in
    let table_of : Columns = let a = c.args in columns a.table.now.vertices a.table.now.heads.now a.table.now.own.now a.table.now.strikes.now a.table.now.spans.now a.table.now.tails.now in
    holding_checkable table_of came c.args.needed.now c.requires c.distinct-more.ensures

pub returns-in_err-check_index : goal.returns-in_err-check_index
returns-in_err-check_index c =
    rw (passed_on _ c.from_residual.ensures.1)
    (let came : Entries = let a = c.args in entries a.entries.now.weights.now a.entries.now.depths.now a.entries.now.edges.now a.entries.now.pieces.now in
    let table_of : Columns = let a = c.args in columns a.table.now.vertices a.table.now.heads.now a.table.now.own.now a.table.now.strikes.now a.table.now.spans.now a.table.now.tails.now in
    let told = held_told table_of came c.args.needed.now c.requires c.distinct-more.ensures c.args.index.now c.args.list.now c.check_index.ensures in
    held_refused table_of came c.args.needed.now c.requires c.distinct-more.ensures c.args.measure _ _ _ (sym told ∙ c.in_err-check_index.was))

pub answers_right-requires : goal.answers_right-requires
answers_right-requires c = c.requires.accepted

pub returns-then-answers_right : goal.returns-then-answers_right
returns-then-answers_right c =
    let came : Entries = let a = c.args in entries a.entries.now.weights.now a.entries.now.depths.now a.entries.now.edges.now a.entries.now.pieces.now in
    let table_of : Columns = let a = c.args in columns a.table.now.vertices a.table.now.heads.now a.table.now.own.now a.table.now.strikes.now a.table.now.spans.now a.table.now.tails.now in
    let told = held_told table_of came c.args.needed.now c.requires c.distinct-more.ensures c.args.index.now c.args.list.now c.check_index.ensures in
    held_right table_of came c.args.needed.now c.requires c.distinct-more.ensures c.args.measure _ _ (sym told ∙ c.in_ok-check_index.was) (sym c.answers_right.ensures ∙ c.if-answers_right.true)

pub returns : goal.returns
returns c =
    let came : Entries = let a = c.args in entries a.entries.now.weights.now a.entries.now.depths.now a.entries.now.edges.now a.entries.now.pieces.now in
    let table_of : Columns = let a = c.args in columns a.table.now.vertices a.table.now.heads.now a.table.now.own.now a.table.now.strikes.now a.table.now.spans.now a.table.now.tails.now in
    let told = held_told table_of came c.args.needed.now c.requires c.distinct-more.ensures c.args.index.now c.args.list.now c.check_index.ensures in
    held_wrong table_of came c.args.needed.now c.requires c.distinct-more.ensures c.args.measure _ _ (sym told ∙ c.in_ok-check_index.was) (sym c.answers_right.ensures ∙ c.if-answers_right.false)
