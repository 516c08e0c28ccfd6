-- `report::put_refused` meets its contract, by whether the refusal has a column. Assumes nothing.
use mathlib.Core.Path.{sym}
use native.Mathlib.Omega.{arith}
use Rattle.writing.proofs.Written.{written_as}
use Rattle.report.proofs.Bounds.{refused_with_two, refused_with_three}
use Rattle.report.proofs.Pieces.{refused_two, refused_three}
use Rattle.report.proofs.put_refused.Goals as goal

pub put_numbers-requires : goal.put_numbers-requires
put_numbers-requires c =
    let w = refused_with_two _ _ c.number-number.type_inv c.place-place.type_inv in
    omega (arith, w, c.requires)

pub returns-then-column-eq0 : goal.returns-then-column-eq0
returns-then-column-eq0 c =
    written_as _ _ _ (sym (refused_two c.args.refusal _ _ _ c.number-number.ensures c.place-place.ensures c.column-column.ensures c.if-column-eq0.true))
    c.put_numbers.ensures

pub put_numbers-requires-else-column-eq0 : goal.put_numbers-requires-else-column-eq0
put_numbers-requires-else-column-eq0 c =
    let w = refused_with_three _ _ _ c.number-number.type_inv c.place-place.type_inv c.column-column.type_inv in
    omega (arith, w, c.requires)

pub returns-else-column-eq0 : goal.returns-else-column-eq0
returns-else-column-eq0 c =
    written_as _ _ _ (sym (refused_three c.args.refusal _ _ _ c.number-number.ensures c.place-place.ensures c.column-column.ensures c.if-column-eq0.false))
    c.put_numbers-else-column-eq0.ensures
