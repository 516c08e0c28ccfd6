-- `ledger::read_counts` meets its contract. The invariant: what is left gathers what the whole gathers. Assumes nothing.
use mathlib.Core.Path.{◌≡◌}
use Prim.Native.Nat.{◌-◌}
use lib.ListN.{length}
use Rattle.ledger.specs.Record.{counts_from}
use Rattle.ledger.proofs.read_counts.Given as goal

abbrev pub invariant-loop-i : goal.invariant-loop-i
invariant-loop-i l = counts_from (length l.column - l.i) l.text l.at l.i l.column ≡ counts_from (length l.initial.column) l.text l.from 0 l.initial.column
