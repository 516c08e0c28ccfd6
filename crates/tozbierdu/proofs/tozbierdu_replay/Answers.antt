use mathlib.Core.Path.{sym, ◌∙◌}
use Rattle.tozbierdu.proofs.Laws.{replay_refused, replay_measure}
use Rattle.tozbierdu.proofs.tozbierdu_replay.Goals as goal

pub returns-in-Err : goal.returns-in-Err
returns-in-Err c = replay_refused _ _ _ _ _ _ (sym c.measure_numbered-choice.ensures ∙ c.in-Err.is) c.result.ensures

pub returns-in-Ok : goal.returns-in-Ok
returns-in-Ok c =
    replay_measure _ _ _ _ _ _ (sym c.measure_numbered-choice.ensures ∙ c.in-Ok.is) c.result-in-Ok.ensures c.replay-a.ensures
