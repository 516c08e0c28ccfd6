-- `topological::store` meets its contract: nothing is stored, or the three numbers of a label. Assumes nothing.
use mathlib.Core.Path.{sym, ap}
use Rattle.columns.specs.Columns.{answers}
use Rattle.topological.specs.Walking.{put_at}
use Rattle.topological.proofs.store.Goals as goal

pub returns-in_default : goal.returns-in_default
returns-in_default c = let a = c.args in sym (ap (put_at (answers a.weights.now a.depths.now a.edges.now) a.v.0) c.in_default.is)

pub returns : goal.returns
returns c =
    let a = c.args in
    sym (ap (put_at (answers a.weights.now a.depths.now a.edges.now) a.v.0) c.in-Some.is)
