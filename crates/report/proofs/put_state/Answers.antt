-- `report::put_state` meets its contract: it writes the word of the state. Assumes nothing.
use Rattle.writing.proofs.Written.{written_as}
use Rattle.report.proofs.put_state.Goals as goal

pub put_bytes-requires : goal.put_bytes-requires
put_bytes-requires c = rw c.word.ensures c.requires

pub returns : goal.returns
returns c = written_as _ _ _ c.word.ensures c.put_bytes.ensures
