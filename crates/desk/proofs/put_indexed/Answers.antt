-- `desk::put_indexed` meets its contract, by what indexing the table returned. Assumes nothing.
use mathlib.Core.Path.{◌≡◌, sym}
use Prim.Native.Nat.{◌*◌}
use lib.Seq.{length-take-le}
use Rattle.weights.specs.Figures.{standing}
use Rattle.columns.specs.Columns.{Entries, entries}
use Rattle.columns.specs.Longer.{NewLine, new_line}
use Rattle.readtable.specs.Read.{ReadOutcome, read_outcome}
use Rattle.reply.specs.Reply.{Said, refused_by}
use Rattle.amend.specs.Amend.{appended_said}
use Rattle.desk.specs.Desk.{lent_whole, in_use_of, indexed_said}
use Rattle.desk.proofs.Laws.{replied_as}
use Rattle.desk.proofs.Appending.{index_refused, index_made}
use Rattle.desk.proofs.put_indexed.Goals as goal
use Rattle.std.specs.Prelude.{Ok}

pub slice_bounds-index_table-end-2 : goal.slice_bounds-index_table-end-2
slice_bounds-index_table-end-2 c = sym (length-take-le c.args.header.edges c.args.heads.now c.requires.stands.heads)

pub slice_bounds-index_table-end-4 : goal.slice_bounds-index_table-end-4
slice_bounds-index_table-end-4 c = sym (length-take-le c.args.header.edges c.args.own.now c.requires.stands.own)

pub slice_bounds-index_table-end-6 : goal.slice_bounds-index_table-end-6
slice_bounds-index_table-end-6 c = sym (length-take-le c.args.header.edges c.args.strikes.now c.requires.stands.strikes)

pub slice_bounds-index_table-end-8 : goal.slice_bounds-index_table-end-8
slice_bounds-index_table-end-8 c = sym (length-take-le (2 * c.args.header.edges) c.args.spans.now c.requires.stands.spans)

pub slice_bounds-index_table-end-10 : goal.slice_bounds-index_table-end-10
slice_bounds-index_table-end-10 c = sym (length-take-le c.args.header.listed c.args.tails.now c.requires.stands.tails)

pub returns-in-Err : goal.returns-in-Err
returns-in-Err c =
    let answers : Entries = entries c.args.weights.now c.args.depths.now c.args.edges.now c.args.pieces.now in
    let lent : ReadOutcome = read_outcome (Ok c.args.header) c.args.heads.now c.args.own.now c.args.strikes.now c.args.spans.now c.args.tails.now in
    let line : NewLine = new_line c.args.head.0 c.args.figure.0 standing c.args.needed.now in
    let said : Said = indexed_said c.args.header lent answers c.args.index.now c.args.list.now line in
    let refused : said ≡ refused_by c.in-Err.r = index_refused c.args.header lent answers c.args.index.now c.args.list.now line _ _ _ c.index_table-indexed.ensures _ c.in-Err.is in
    replied_as _ _ _ (sym refused) c.put_refusal.ensures

pub returns : goal.returns
returns c =
    let answers : Entries = entries c.args.weights.now c.args.depths.now c.args.edges.now c.args.pieces.now in
    let lent : ReadOutcome = read_outcome (Ok c.args.header) c.args.heads.now c.args.own.now c.args.strikes.now c.args.spans.now c.args.tails.now in
    let line : NewLine = new_line c.args.head.0 c.args.figure.0 standing c.args.needed.now in
    let said : Said = indexed_said c.args.header lent answers c.args.index.now c.args.list.now line in
    let made : said ≡ appended_said c.args.header.measure (lent_whole c.args.header lent) (in_use_of c.args.header) answers c.index_table-indexed.new.index c.index_table-indexed.new.list line = index_made c.args.header lent answers c.args.index.now c.args.list.now line _ _ _ c.index_table-indexed.ensures _ c.in-Ok.is in
    replied_as c.args.room.now _ c.put_appended.new.room
    (sym made)
    c.put_appended.ensures
