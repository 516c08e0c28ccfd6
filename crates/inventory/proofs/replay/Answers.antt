-- `inventory::replay` meets its contract: refused before the events, or the record is run over copies that hold the shelf and the outcomes. Assumes nothing.
use mathlib.Core.Path.{sym, ◌∙◌}
use native.Mathlib.Omega.{arith}
use lib.Seq.{length-take-le}
use Rattle.inventory.proofs.Opening.{open_accepted, opened_replayable}
use Rattle.inventory.proofs.Replayed.{replay_unopened, replay_opened}
use Rattle.refusal.proofs.Passed.{passed_on}
use Rattle.inventory.proofs.replay.Goals as goal

pub returns-in_err-check_open : goal.returns-in_err-check_open
returns-in_err-check_open c = rw (passed_on _ c.from_residual.ensures.1) (replay_unopened _ _ _ _ _ _ _ (sym c.check_open.ensures ∙ c.in_err-check_open.was))

pub slice_bounds-counts-end : goal.slice_bounds-counts-end
slice_bounds-counts-end c =
    let o = open_accepted _ _ _ _ _ _ _ (sym c.check_open.ensures ∙ c.in_ok-check_open.was) in
    omega (arith, o.level, o.recorded.vertices)

pub slice_bounds-replay_on-end : goal.slice_bounds-replay_on-end
slice_bounds-replay_on-end c =
    let o = open_accepted _ _ _ _ _ _ _ (sym c.check_open.ensures ∙ c.in_ok-check_open.was) in
    sym (length-take-le _ _ (omega (arith, o.level, o.recorded.vertices)))

pub slice_bounds-numbers-end : goal.slice_bounds-numbers-end
slice_bounds-numbers-end c =
    let o = open_accepted _ _ _ _ _ _ _ (sym c.check_open.ensures ∙ c.in_ok-check_open.was) in
    omega (arith, o.recorded.events)

pub slice_bounds-replay_on-end-2 : goal.slice_bounds-replay_on-end-2
slice_bounds-replay_on-end-2 c =
    let o = open_accepted _ _ _ _ _ _ _ (sym c.check_open.ensures ∙ c.in_ok-check_open.was) in
    sym (length-take-le _ _ (omega (arith, o.recorded.events)))

pub replay_on-requires : goal.replay_on-requires
replay_on-requires c =
    let o = open_accepted _ _ _ _ _ _ _ (sym c.check_open.ensures ∙ c.in_ok-check_open.was) in
    let counts = length-take-le _ _ (omega (arith, o.level, o.recorded.vertices)) in
    let numbers = length-take-le _ _ (omega (arith, o.recorded.events)) in
    (opened_replayable o, record { counts = counts; numbers = numbers ∙ sym o.recorded.outcomes })

pub returns : goal.returns
returns c = c.replay_on.ensures ∙ replay_opened _ _ _ _ _ _ _ (sym c.check_open.ensures ∙ c.in_ok-check_open.was)
