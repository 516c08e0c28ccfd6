use Rattle.tozbierdu.proofs.Laws.{laid_number}
use Rattle.tozbierdu.proofs.tozbierdu_shuffle.Goals as goal

pub returns : goal.returns
returns c = laid_number c.shuffle-a.ensures c.result.ensures
