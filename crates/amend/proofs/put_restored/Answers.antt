-- `amend::put_restored` meets its contract, by what restoring returned. Assumes nothing.
use mathlib.Core.Path.{refl}
use Rattle.columns.specs.Columns.{Entries, Columns, columns, entries}
use Rattle.amend.proofs.Laws.{replied_as, restored_by}
use Rattle.amend.proofs.put_restored.Goals as goal

-- what could be left to find is given: filled in, each would be a path counted out
pub returns : goal.returns
returns c =
    let came : Entries = let a = c.args in entries a.weights.now a.depths.now a.edges.now a.pieces.now in
    let left : Entries = entries c.restore-answer.new.weights c.restore-answer.new.depths c.restore-answer.new.edges c.restore-answer.new.pieces in
    let table_of : Columns = let a = c.args in columns a.n a.heads.now a.own.now a.strikes.now a.spans.now a.tails.now in
    replied_as (restored_by c.args.measure table_of came c.args.line.0 c.restore-answer.result c.restore-answer.new.strikes left c.restore-answer.ensures) refl c.put_changed.ensures
