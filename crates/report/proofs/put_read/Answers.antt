-- `report::put_read` meets its contract: the parts that are lent on have the lengths that the header tells. Assumes nothing.
use Rattle.std.proofs.Common.{ℕ, ◌≤◌, List, length, sym, subst}
use Rattle.writing.proofs.Written.{written_as}
use Rattle.report.specs.Pieces.{lent_columns}
use Rattle.report.proofs.Laws.{priced_blank}
use Rattle.report.proofs.put_read.Goals as goal

pub put_priced-requires-clause-a_in_bounds : goal.put_priced-requires-clause-a_in_bounds
put_priced-requires-clause-a_in_bounds c =
    let a = c.args in
    subst (λ (z : List ℕ). length z ≤ length a.room.now)
    (sym (priced_blank a.header.measure (lent_columns a.header a.table.now.heads.now a.table.now.own.now a.table.now.strikes.now a.table.now.spans.now a.table.now.tails.now) a.header.vertices c.requires.few))
    c.requires.fits

pub returns : goal.returns
returns c =
    let a = c.args in
    written_as _ _ _
    (priced_blank a.header.measure (lent_columns a.header a.table.now.heads.now a.table.now.own.now a.table.now.strikes.now a.table.now.spans.now a.table.now.tails.now) a.header.vertices c.requires.few)
    c.put_priced.ensures
