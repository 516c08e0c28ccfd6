use mathlib.Core.Path.{sym, ◌∙◌, ap}
use mathlib.Core.List.{List}
use Prim.Native.Nat.{ℕ, ◌+◌}
use native.Mathlib.Omega.{arith}
use lib.ListN.{set, take, drop}
use Rattle.inventory.specs.Shelf.{chosen_tail}
use Rattle.inventory.specs.Replaying.{resumed, replay_from}
use Rattle.inventory.proofs.Running.{events_step, events_stop, events_end}
use Rattle.inventory.proofs.Conservation.{event_low}
use Rattle.inventory.proofs.replay_events.Goals as goal

-- event i has its pieces, and its place among the outcomes
pub returns-in-Err : goal.returns-in-Err
returns-in-Err c =
    events_stop _ _ _ _ _ _ c.loop-i-test.true (omega (arith, c.requires.received, c.loop-i-test.true)) _ _ (sym c.in-Err.ensures)
    ∙ c.loop-i.invariant.1

pub loop-i-preserved : goal.loop-i-preserved
loop-i-preserved c =
    let a = c.args in
    let i = c.loop-i.i in
    let lists : ℕ → List ℕ = chosen_tail a.spans.now a.tails.now a.depths.now a.edges.now in
    let rest = replay_from lists (i + 1) (drop (i + 1) a.parts.now) (drop (i + 1) a.received.now) c.apply_event-step.new.stock in (
      event_low a.spans.now a.tails.now a.depths.now a.edges.now i _ _ c.loop-i.stock (sym c.in-Ok.ensures) c.loop-i.invariant.0,
      ap (λ (x : ℕ). resumed (take (i + 1) (set c.loop-i.outcomes i x)) rest) c.from.ensures
          ∙ events_step _ _ _ _ _ _ c.loop-i-test.true (omega (arith, c.requires.received, c.loop-i-test.true)) _ _
          (omega (arith, c.requires.outcomes, c.loop-i.auto.outcomes, c.loop-i-test.true)) (sym c.in-Ok.ensures)
          ∙ c.loop-i.invariant.1,
    )

pub returns : goal.returns
returns c =
    events_end _ _ _ _ _ _ c.loop-i-test.false (omega (arith, c.requires.outcomes, c.loop-i.auto.outcomes, c.loop-i-test.false)) ∙ c.loop-i.invariant.1
