-- `ledger::event_at` meets its contract, by what stands at the place. Assumes nothing.
use mathlib.Core.Path.{◌∙◌}
use Rattle.ledger.proofs.Laws.{event_end, event_is}
use Rattle.ledger.proofs.event_at.Goals as goal

pub returns-then-at-text : goal.returns-then-at-text
returns-then-at-text c = event_end _ _ c.if-at-text.true

pub returns-in_default : goal.returns-in_default
returns-in_default c = event_is _ _ c.number_at-token.result _ c.if-at-text.false c.number_at-token.ensures c.in_default.is

pub returns : goal.returns
returns c =
    let a = c.args in
    c.pieces_at.ensures ∙ event_is a.text.now a.at c.number_at-token.result _ c.if-at-text.false c.number_at-token.ensures c.in-Some.is
