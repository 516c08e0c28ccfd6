-- `ledger::found_at` meets its contract, by whether a number was found. Assumes nothing.
use Rattle.ledger.proofs.Laws.{found_is}
use Rattle.ledger.proofs.found_at.Goals as goal

pub returns-in_default : goal.returns-in_default
returns-in_default c = let n = c.number_at-token in found_is _ _ n.result n.ensures _ c.in_default.is

pub returns : goal.returns
returns c = let n = c.number_at-token in found_is _ _ n.result n.ensures _ c.in-Some.is
