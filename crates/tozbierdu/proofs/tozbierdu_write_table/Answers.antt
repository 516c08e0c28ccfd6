use mathlib.Core.Path.{sym, ◌∙◌}
use Rattle.tozbierdu.proofs.Laws.{write_refused, write_measure}
use Rattle.tozbierdu.proofs.tozbierdu_write_table.Goals as goal

pub returns-in-Err : goal.returns-in-Err
returns-in-Err c = write_refused _ _ (sym c.measure_numbered-choice.ensures ∙ c.in-Err.is) c.result.ensures

pub returns-in-Ok : goal.returns-in-Ok
returns-in-Ok c =
    write_measure _ _ (sym c.measure_numbered-choice.ensures ∙ c.in-Ok.is) c.result-in-Ok.ensures c.write_table-x.ensures
