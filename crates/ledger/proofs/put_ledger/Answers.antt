-- `ledger::put_ledger` meets its contract: the rows, and the counts in the room behind them. Assumes nothing.
use Prim.Native.Nat.{◌+◌, ◌≤◌}
use native.Mathlib.Omega.{arith}
use lib.ListN.{length}
use Rattle.reply.proofs.Room.{written_behind}
use Rattle.ledger.specs.Ledger.{most_stock_line, ledger}
use Rattle.ledger.proofs.put_ledger.Goals as goal

pub returns : goal.returns
unfolding ledger
returns c =
    let left : c.put_outcome_rows-at.result + most_stock_line ≤ length c.args.room.now = let a = c.put_outcome_rows-at.ensures.upper_bound in let n = c.requires.1 in let p = c.requires.3 in omega arith in
    written_behind _ _ _ _ c.put_outcome_rows-at.ensures.written most_stock_line left _ _ _ c.put_stock-width.ensures.upper_bound c.put_stock-width.ensures.written
