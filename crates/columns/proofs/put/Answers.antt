-- `columns::put` meets its contract. Assumes nothing.
use mathlib.Core.Path.{ap}
use mathlib.Core.List.{List, ◌++◌}
use Prim.Native.Nat.{ℕ}
use lib.ListN.{length, drop}
use Rattle.columns.specs.Filled.{filled}
use Rattle.columns.proofs.put.Goals as goal

pub returns : goal.returns
unfolding filled
returns c = ap (λ (z : List ℕ). z ++ drop (length c.args.new.now) c.args.column.now) c.copy_from_slice.ensures.after
