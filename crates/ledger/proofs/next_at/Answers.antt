-- `ledger::next_at` meets its contract, by the separator. Assumes nothing.
use mathlib.Core.Path.{◌∙◌}
use Rattle.ledger.proofs.Laws.{next_is}
use Rattle.ledger.proofs.next_at.Goals as goal

pub returns-in-Space : goal.returns-in-Space
returns-in-Space c = c.found_at.ensures ∙ next_is c.args.text.now c.args.at _ _ c.separator_at-separator.ensures c.in-Space.is

pub returns-in-LineEnd : goal.returns-in-LineEnd
returns-in-LineEnd c = next_is c.args.text.now c.args.at _ _ c.separator_at-separator.ensures c.in-LineEnd.is

pub returns-in-Neither : goal.returns-in-Neither
returns-in-Neither c = next_is c.args.text.now c.args.at _ _ c.separator_at-separator.ensures c.in-Neither.is
