use Rattle.tozbierdu.proofs.Laws.{laid_number}
use Rattle.tozbierdu.proofs.tozbierdu_unshuffle.Goals as goal

pub returns : goal.returns
returns c = laid_number c.unshuffle-a.ensures c.result.ensures
