-- `readtable::read_table` meets its contract. Assumes nothing.
use mathlib.Core.Path.{sym, ◌∙◌}
use Rattle.readtable.proofs.Laws.{read_wrong, Holding, holding, read_short, read_ready, read_whole}
use Rattle.readtable.proofs.read_table.Goals as goal

pub returns-in_default : goal.returns-in_default
returns-in_default c = read_wrong _ _ _ _ _ _ _ _ c.check_text-reading.ensures c.in_default.is

pub returns-then-not-room_for : goal.returns-then-not-room_for
returns-then-not-room_for c =
    let held : Holding c.args.text.now c.in-Ok.header = holding _ _ _ c.check_text-reading.ensures c.in-Ok.is in
    read_short _ _ held _ _ _ _ _ (sym c.if-not-room_for.true ∙ c.room_for.ensures)

pub fill-requires : goal.fill-requires
fill-requires c =
    let held : Holding c.args.text.now c.in-Ok.header = holding _ _ _ c.check_text-reading.ensures c.in-Ok.is in
    let a = c.args in
    read_ready _ _ held a.heads.now a.own.now a.strikes.now a.spans.now a.tails.now (sym c.if-not-room_for.false ∙ c.room_for.ensures)

pub returns : goal.returns
returns c =
    let held : Holding c.args.text.now c.in-Ok.header = holding _ _ _ c.check_text-reading.ensures c.in-Ok.is in
    read_whole _ _ held _ _ _ _ _ _ _ _ _ _ (sym c.if-not-room_for.false ∙ c.room_for.ensures) c.fill.ensures _
    (sym c.in-Ok.is ∙ c.check_text-reading.ensures)
