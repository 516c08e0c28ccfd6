use Rattle.tozbierdu.proofs.Laws.{summary_refused, summary_moments}
use Rattle.tozbierdu.proofs.tozbierdu_summarize.Goals as goal

pub returns-in-Err : goal.returns-in-Err
returns-in-Err c = summary_refused _ c.summarize-s.ensures c.in-Err.is c.result.ensures

pub returns-in-Ok : goal.returns-in-Ok
returns-in-Ok c = summary_moments _ c.summarize-s.ensures c.in-Ok.is c.write_moments.ensures
