-- `amend::put_stricken` meets its contract, by what striking returned. Assumes nothing.
use mathlib.Core.Path.{refl}
use Rattle.columns.specs.Columns.{Entries, Columns, columns, entries}
use Rattle.amend.proofs.Laws.{replied_as, stricken_by}
use Rattle.amend.proofs.put_stricken.Goals as goal

-- what could be left to find is given: filled in, each would be a path counted out
pub returns : goal.returns
returns c =
    let came : Entries = let a = c.args in entries a.weights.now a.depths.now a.edges.now a.pieces.now in
    let left : Entries = entries c.strike-answer.new.weights c.strike-answer.new.depths c.strike-answer.new.edges c.strike-answer.new.pieces in
    let table_of : Columns = let a = c.args in columns a.n a.heads.now a.own.now a.strikes.now a.spans.now a.tails.now in
    replied_as (stricken_by c.args.measure table_of came c.args.line.0 c.strike-answer.result c.strike-answer.new.strikes left c.strike-answer.ensures) refl c.put_changed.ensures
