-- `inventory::replay_events` meets its contract. The invariant: the outcomes before event i and what is left of the record give what the whole gives. Assumes nothing.
use mathlib.Core.Path.{◌≡◌}
use lib.ListN.{take, drop}
use Rattle.inventory.specs.Shelf.{chosen_tail, Low}
use Rattle.inventory.specs.Replaying.{resumed, replay_from}
use Rattle.inventory.proofs.replay_events.Given as goal

abbrev pub invariant-loop-i : goal.invariant-loop-i
invariant-loop-i l =
    let lists = chosen_tail l.spans l.tails l.depths l.edges in
    Low l.stock × (resumed (take l.i l.outcomes) (replay_from lists l.i (drop l.i l.parts) (drop l.i l.received) l.stock) ≡ replay_from lists 0 l.parts l.received l.initial.stock)
