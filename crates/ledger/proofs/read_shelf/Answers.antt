-- `ledger::read_shelf` meets its contract, by whether the word stands at the start. Assumes nothing.
use mathlib.Core.Path.{sym, ◌∙◌}
use Rattle.ledger.proofs.Laws.{shelf_word, shelf_other}
use Rattle.ledger.proofs.read_shelf.Goals as goal

pub returns-then-same-eq5 : goal.returns-then-same-eq5
returns-then-same-eq5 c = c.read_counts.ensures ∙ shelf_word _ _ (sym c.agree-same.ensures ∙ c.if-same-eq5.true)

pub returns : goal.returns
returns c = shelf_other _ _ c.agree-same.result c.agree-same.ensures c.if-same-eq5.false
