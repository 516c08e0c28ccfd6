-- `inventory::receive` meets its contract: the pieces pass what is left to the limit exactly if the sum passes the limit. Assumes nothing.
use Prim.Native.Nat.{◌+◌}
use native.Mathlib.Omega.{arith}
use borrow.Author.Tests.{le-leb, lt-leb}
use Rattle.columns.specs.Columns.{cell}
use Rattle.inventory.specs.Shelf.{most_stock}
use Rattle.inventory.specs.Replaying.{receive}
use Rattle.inventory.proofs.receive.Goals as goal

pub returns-then-pieces-held : goal.returns-then-pieces-held
unfolding receive
returns-then-pieces-held c = let a = c.args in rw (lt-leb (cell a.stock.now a.v.0 + a.pieces) most_stock (omega arith))

pub returns : goal.returns
unfolding receive
returns c = let a = c.args in rw (le-leb (cell a.stock.now a.v.0 + a.pieces) most_stock (omega (arith, c.requires.1)))
