-- `reprice::renew` meets its contract: where the line rests the answers stay, and else `label` leaves those of the table. Assumes nothing.
use mathlib.Core.Path.{◌≡◌, sym, ◌∙◌}
use mathlib.Core.Bool.{true}
use Rattle.columns.specs.Columns.{Columns, answers}
use Rattle.columns.specs.Lent.{lent}
use Rattle.settle.specs.Resting.{rests}
use Rattle.reprice.proofs.renew.Goals as goal

pub returns-then-line_rests : goal.returns-then-line_rests
returns-then-line_rests c =
    let table_of : Columns = let a = c.args in lent a.table.now.heads.now a.table.now.own.now a.table.now.strikes.now a.table.now.spans.now a.table.now.tails.now a.depths.now in
    let rested : rests c.args.measure table_of (answers c.args.weights.now c.args.depths.now c.args.edges.now) c.args.line.0 ≡ true = sym c.line_rests.ensures ∙ c.if-line_rests.true in
    c.requires.stays rested
