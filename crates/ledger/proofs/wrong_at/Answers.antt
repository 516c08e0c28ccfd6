-- `ledger::wrong_at` meets its contract. Assumes nothing.
use mathlib.Core.Path.{refl}
use native.Mathlib.Omega.{arith}
use Rattle.ledger.proofs.wrong_at.Goals as goal

pub overflow_sub-column : goal.overflow_sub-column
overflow_sub-column c = let p = c.requires.0 in omega arith

pub overflow_add-column : goal.overflow_add-column
overflow_add-column c = let p = c.requires.1 in omega arith

pub returns : goal.returns
returns c = refl
