-- `ledger::read_events` meets its contract. The invariant: what is left gives what the whole gives. Assumes nothing.
use mathlib.Core.Path.{◌≡◌}
use Prim.Native.Nat.{◌-◌, ◌≤◌}
use lib.ListN.{length}
use Rattle.ledger.specs.Record.{events_from}
use Rattle.ledger.proofs.read_events.Given as goal

abbrev pub invariant-loop-i : goal.invariant-loop-i
invariant-loop-i l =
    (l.at ≤ length l.text)
    × (events_from (length l.parts - l.i) l.text l.at l.i l.parts l.received ≡ events_from (length l.initial.parts) l.text l.from 0 l.initial.parts l.initial.received)
