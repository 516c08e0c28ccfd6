-- `desk::put_read` meets its contract: the parts that are lent on have the lengths that the header tells. Assumes nothing.
use mathlib.Core.Path.{sym}
use Prim.Native.Nat.{◌*◌}
use lib.Seq.{length-take-le}
use Rattle.columns.specs.Columns.{Columns}
use Rattle.report.specs.Pieces.{lent_columns}
use Rattle.report.proofs.Laws.{zeros_long}
use Rattle.desk.proofs.Laws.{replied_as, blank_said}
use Rattle.desk.proofs.put_read.Goals as goal

pub slice_bounds-put_table-end : goal.slice_bounds-put_table-end
slice_bounds-put_table-end c = sym (length-take-le c.args.header.edges c.args.heads.now c.requires.stands.heads)

pub slice_bounds-put_table-end-3 : goal.slice_bounds-put_table-end-3
slice_bounds-put_table-end-3 c = sym (length-take-le c.args.header.edges c.args.own.now c.requires.stands.own)

pub slice_bounds-put_table-end-5 : goal.slice_bounds-put_table-end-5
slice_bounds-put_table-end-5 c = sym (length-take-le c.args.header.edges c.args.strikes.now c.requires.stands.strikes)

pub slice_bounds-put_table-end-6 : goal.slice_bounds-put_table-end-6
slice_bounds-put_table-end-6 c = sym (length-take-le (2 * c.args.header.edges) c.args.spans.now c.requires.stands.spans)

pub slice_bounds-put_table-end-7 : goal.slice_bounds-put_table-end-7
slice_bounds-put_table-end-7 c = sym (length-take-le c.args.header.listed c.args.tails.now c.requires.stands.tails)

pub slice_bounds-put_table-end-8 : goal.slice_bounds-put_table-end-8
slice_bounds-put_table-end-8 c = zeros_long c.args.header.vertices c.requires.stands.few

pub slice_bounds-put_table-end-9 : goal.slice_bounds-put_table-end-9
slice_bounds-put_table-end-9 c = zeros_long c.args.header.vertices c.requires.stands.few

pub slice_bounds-put_table-end-10 : goal.slice_bounds-put_table-end-10
slice_bounds-put_table-end-10 c = zeros_long c.args.header.vertices c.requires.stands.few

pub slice_bounds-put_table-end-11 : goal.slice_bounds-put_table-end-11
slice_bounds-put_table-end-11 c = zeros_long c.args.header.vertices c.requires.stands.few

pub returns : goal.returns
returns c =
    let table : Columns = lent_columns c.args.header c.args.heads.now c.args.own.now c.args.strikes.now c.args.spans.now c.args.tails.now in
    replied_as _ _ _ (blank_said c.args.second.now c.args.query c.args.header.measure table c.args.header.vertices c.requires.stands.few) c.put_table.ensures
