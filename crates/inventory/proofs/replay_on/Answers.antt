-- `inventory::replay_on` meets its contract: the record runs over copies, which are copied back when its last event has passed. Assumes nothing.
use mathlib.Core.Path.{◌≡◌, sym, ◌∙◌, ap}
use mathlib.Core.List.{List}
use Prim.Native.Nat.{ℕ}
use lib.ListN.{length}
use Rattle.inventory.specs.Shelf.{chosen_tail}
use Rattle.inventory.specs.Replaying.{ran, replay_from}
use Rattle.inventory.proofs.Running.{filled-all, copies_replayable, copies_left, copies_kept}
use Rattle.refusal.proofs.Passed.{passed_on}
use Rattle.inventory.proofs.replay_on.Goals as goal

pub replay_events-requires : goal.replay_events-requires
replay_events-requires c =
    let copied : c.put.new.column ≡ c.args.stock.now = c.put.ensures ∙ filled-all _ _ (sym c.requires.1.counts) in
    copies_replayable c.requires.0 c.requires.1 copied

pub returns-in_err-replay_events : goal.returns-in_err-replay_events
returns-in_err-replay_events c =
    rw (passed_on _ c.from_residual.ensures.1)
    (let copied : c.put.new.column ≡ c.args.stock.now = c.put.ensures ∙ filled-all _ _ (sym c.requires.1.counts) in
    let lists : ℕ → List ℕ = chosen_tail c.args.spans.now c.args.tails.now c.args.depths.now c.args.edges.now in
    let run : let k = c.replay_events in ran k.result k.new.stock k.new.outcomes ≡ replay_from lists 0 c.args.parts.now c.args.received.now c.args.stock.now = c.replay_events.ensures ∙ ap (replay_from lists 0 c.args.parts.now c.args.received.now) copied in
    copies_left _ _ _ _ _ _ run c.in_err-replay_events.was)

pub returns : goal.returns
returns c =
    let copied : c.put.new.column ≡ c.args.stock.now = c.put.ensures ∙ filled-all _ _ (sym c.requires.1.counts) in
    let lists : ℕ → List ℕ = chosen_tail c.args.spans.now c.args.tails.now c.args.depths.now c.args.edges.now in
    let run : let k = c.replay_events in ran k.result k.new.stock k.new.outcomes ≡ replay_from lists 0 c.args.parts.now c.args.received.now c.args.stock.now = c.replay_events.ensures ∙ ap (replay_from lists 0 c.args.parts.now c.args.received.now) copied in
    let k = c.replay_events.auto in
    let l : length c.replay_events.new.stock ≡ length c.args.stock.now = k.stock ∙ ap length copied in
    let n : length c.replay_events.new.outcomes ≡ length c.args.outcomes.now = k.outcomes ∙ c.requires.1.numbers in
    copies_kept _ _ _ _ _ _ run c.in_ok-replay_events.was (c.put-2.ensures ∙ filled-all _ _ l) (c.put-3.ensures ∙ filled-all _ _ n)
