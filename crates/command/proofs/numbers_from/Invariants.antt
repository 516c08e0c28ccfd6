-- `command::numbers_from` meets its contract. The invariant: what is left gathers what the whole gathers. Assumes nothing.
use mathlib.Core.Path.{◌≡◌}
use Prim.Native.Nat.{◌-◌}
use lib.ListN.{length}
use Rattle.command.specs.Command.{numbers_from}
use Rattle.command.proofs.numbers_from.Given as goal

abbrev pub invariant-loop-i : goal.invariant-loop-i
invariant-loop-i l = numbers_from (length l.column - l.i) l.words l.at l.i l.column ≡ numbers_from (length l.initial.column) l.words l.from 0 l.initial.column
