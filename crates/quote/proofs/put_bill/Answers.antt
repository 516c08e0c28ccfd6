-- `quote::put_bill` meets its contract, by what printing the bill returned. Assumes nothing.
use mathlib.Core.Path.{sym}
use Prim.Native.Nat.{◌≤◌}
use native.Mathlib.Omega.{arith}
use lib.Seq.{length-take-le}
use Rattle.columns.specs.Columns.{Entries, Columns, columns, entries}
use Rattle.quote.specs.Quote.{most_lines}
use Rattle.quote.proofs.Said.{lines_few, lines_within, reply_refused, reply_lines}
use Rattle.quote.proofs.put_bill.Goals as goal

pub returns-in-Err : goal.returns-in-Err
returns-in-Err c =
    let came : Entries = let a = c.args in entries a.entries.now.weights.now a.entries.now.depths.now a.entries.now.edges.now a.entries.now.pieces.now in
    let table_of : Columns = let a = c.args in columns a.table.now.vertices a.table.now.heads.now a.table.now.own.now a.table.now.strikes.now a.table.now.spans.now a.table.now.tails.now in
    reply_refused c.args.measure table_of came c.args.part.0 _ _ c.bill-extent.ensures _ c.in-Err.is _ _ _ c.put_refusal.ensures

pub slice_bounds-lines-end : goal.slice_bounds-lines-end
slice_bounds-lines-end c =
    let came : Entries = let a = c.args in entries a.entries.now.weights.now a.entries.now.depths.now a.entries.now.edges.now a.entries.now.pieces.now in
    let table_of : Columns = let a = c.args in columns a.table.now.vertices a.table.now.heads.now a.table.now.own.now a.table.now.strikes.now a.table.now.spans.now a.table.now.tails.now in
    lines_within c.args.measure table_of came c.args.part.0 _ _ c.bill-extent.ensures _ c.in-Ok.is

pub slice_bounds-put_sheet-end : goal.slice_bounds-put_sheet-end
slice_bounds-put_sheet-end c =
    let came : Entries = let a = c.args in entries a.entries.now.weights.now a.entries.now.depths.now a.entries.now.edges.now a.entries.now.pieces.now in
    let table_of : Columns = let a = c.args in columns a.table.now.vertices a.table.now.heads.now a.table.now.own.now a.table.now.strikes.now a.table.now.spans.now a.table.now.tails.now in
    sym (length-take-le _ _ (lines_within c.args.measure table_of came c.args.part.0 _ _ c.bill-extent.ensures _ c.in-Ok.is))

pub put_sheet-width-requires : goal.put_sheet-width-requires
put_sheet-width-requires c =
    let came : Entries = let a = c.args in entries a.entries.now.weights.now a.entries.now.depths.now a.entries.now.edges.now a.entries.now.pieces.now in
    let table_of : Columns = let a = c.args in columns a.table.now.vertices a.table.now.heads.now a.table.now.own.now a.table.now.strikes.now a.table.now.spans.now a.table.now.tails.now in
    let few : c.in-Ok.k ≤ most_lines = lines_few c.args.measure table_of came c.args.part.0 _ _ c.bill-extent.ensures _ c.in-Ok.is in
    let k = few in
    let l = length-take-le _ _ (lines_within c.args.measure table_of came c.args.part.0 _ _ c.bill-extent.ensures _ c.in-Ok.is) in
    omega arith

pub returns-in-Ok : goal.returns-in-Ok
returns-in-Ok c =
    let came : Entries = let a = c.args in entries a.entries.now.weights.now a.entries.now.depths.now a.entries.now.edges.now a.entries.now.pieces.now in
    let table_of : Columns = let a = c.args in columns a.table.now.vertices a.table.now.heads.now a.table.now.own.now a.table.now.strikes.now a.table.now.spans.now a.table.now.tails.now in
    reply_lines c.args.measure table_of came c.args.part.0 _ _ c.bill-extent.ensures _ c.in-Ok.is _ c.entry-entry.ensures _ _ _ c.put_sheet-width.ensures
