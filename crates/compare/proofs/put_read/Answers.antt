-- `compare::put_read` meets its contract: the parts that are lent on have the lengths that the header tells. Assumes nothing.
use mathlib.Core.Path.{sym}
use Prim.Native.Nat.{◌*◌}
use lib.Seq.{length-take-le}
use Rattle.columns.specs.Columns.{Entries, Columns, entries}
use Rattle.columns.specs.Given.{entries_in}
use Rattle.report.specs.Pieces.{lent_columns}
use Rattle.report.proofs.Laws.{zeros_long}
use Rattle.compare.proofs.Said.{replied_as, blank_said}
use Rattle.compare.proofs.put_read.Goals as goal

pub slice_bounds-put_settled-end : goal.slice_bounds-put_settled-end
slice_bounds-put_settled-end c = sym (length-take-le c.args.header.edges c.args.table.now.heads.now c.requires.lent.heads)

pub slice_bounds-put_settled-end-2 : goal.slice_bounds-put_settled-end-2
slice_bounds-put_settled-end-2 c = sym (length-take-le c.args.header.edges c.args.table.now.own.now c.requires.lent.own)

pub slice_bounds-put_settled-end-3 : goal.slice_bounds-put_settled-end-3
slice_bounds-put_settled-end-3 c = sym (length-take-le c.args.header.edges c.args.table.now.strikes.now c.requires.lent.strikes)

pub slice_bounds-put_settled-end-4 : goal.slice_bounds-put_settled-end-4
slice_bounds-put_settled-end-4 c = sym (length-take-le (2 * c.args.header.edges) c.args.table.now.spans.now c.requires.lent.spans)

pub slice_bounds-put_settled-end-5 : goal.slice_bounds-put_settled-end-5
slice_bounds-put_settled-end-5 c = sym (length-take-le c.args.header.listed c.args.table.now.tails.now c.requires.lent.tails)

pub slice_bounds-put_settled-end-6 : goal.slice_bounds-put_settled-end-6
slice_bounds-put_settled-end-6 c = zeros_long c.args.header.vertices c.requires.lent.few

pub slice_bounds-put_settled-end-7 : goal.slice_bounds-put_settled-end-7
slice_bounds-put_settled-end-7 c = zeros_long c.args.header.vertices c.requires.lent.few

pub slice_bounds-put_settled-end-8 : goal.slice_bounds-put_settled-end-8
slice_bounds-put_settled-end-8 c = zeros_long c.args.header.vertices c.requires.lent.few

pub slice_bounds-put_settled-end-9 : goal.slice_bounds-put_settled-end-9
slice_bounds-put_settled-end-9 c = zeros_long c.args.header.vertices c.requires.lent.few

pub put_settled-requires : goal.put_settled-requires
put_settled-requires c = record {
  most_reply_in_bounds = c.requires.most_reply_in_bounds;
  n_le_most_vertices = c.requires.n_le_most_vertices;
  k_le_most_vertices = c.requires.lent.few;
}

pub returns : goal.returns
returns c =
    let one : Entries = entries_in c.args.entries.now in
    let table : Columns = lent_columns c.args.header c.args.table.now.heads.now c.args.table.now.own.now c.args.table.now.strikes.now c.args.table.now.spans.now c.args.table.now.tails.now in
    let g = c.args.header in
    replied_as _ _ _ (blank_said c.args.n g.vertices one g.measure table c.requires.lent.few) c.put_settled.ensures
