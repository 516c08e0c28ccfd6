-- `bestfirst::turn` meets its contract: the least key is that of what is next; its head is labelled in all three columns, what waited for it goes on, and its key
-- is taken out of the queue. Assumes nothing.
use Rattle.bestfirst.proofs.Turning.{stuck, found, placeable, stored_turn, waking_after, raisable, waits_after}
use Rattle.bestfirst.proofs.turn.Goals as goal

pub returns-then-key : goal.returns-then-key
returns-then-key c = (stuck c.requires _ c.least-key.ensures c.if-key.true, c.requires.waits)

pub store-v-requires : goal.store-v-requires
store-v-requires c =
    let n = found c.requires _ c.least-key.ensures c.if-key.false c.unpack-l.ensures in
    placeable c.requires n

pub wake_all-requires : goal.wake_all-requires
wake_all-requires c =
    let n = found c.requires _ c.least-key.ensures c.if-key.false c.unpack-l.ensures in
    waking_after c.requires n c.store-v.ensures.stored c.store-v.ensures.head

pub raise-requires : goal.raise-requires
raise-requires c =
    let n = found c.requires _ c.least-key.ensures c.if-key.false c.unpack-l.ensures in
    raisable c.requires n c.store-v.ensures.stored c.store-v.ensures.head c.wake_all.ensures

pub returns : goal.returns
returns c =
    let n = found c.requires _ c.least-key.ensures c.if-key.false c.unpack-l.ensures in (
      stored_turn c.requires n c.store-v.ensures.stored c.store-v.ensures.head,
      waits_after c.requires n c.store-v.ensures.stored c.store-v.ensures.head c.wake_all.ensures c.raise.ensures,
    )
