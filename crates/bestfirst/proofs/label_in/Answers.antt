-- `bestfirst::label_in` meets its contract: the columns are clear at first, and what starts leaves what the turns ask for. Assumes nothing.
use Rattle.bestfirst.proofs.Clear.{offerable, emptied, ready}
use Rattle.bestfirst.proofs.label_in.Goals as goal

pub start-requires : goal.start-requires
start-requires c = let p = c.requires in (offerable p.0 p.1, emptied p.0 p.1)

pub turns-requires : goal.turns-requires
turns-requires c =
    let p = c.requires in
    ready p.0 p.1 c.start.ensures
