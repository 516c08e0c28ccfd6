use Prim.Native.Nat.{◌≤◌}
use native.Mathlib.Omega.{arith}
use borrow.Author.Rules.{rules}
use lib.ListN.{length}
use Rattle.columns.specs.Columns.{Columns, columns}
use Rattle.columns.specs.Acceptance.{most_edges}
use Rattle.columns.proofs.Accepted.{table_accepted}
use Rattle.uses.specs.Uses.{uses_below}
use Rattle.writing.proofs.Written.{written_none}
use Rattle.whereused.specs.WhereUsed.{use_row, use_rows}
use Rattle.whereused.proofs.Rows.{row_in, use_starts, use_room, use_next}
use Rattle.whereused.proofs.Said.{reply_absent, reply_rows}
use Rattle.whereused.proofs.put_uses.Goals as goal

pub put_refusal-requires : goal.put_refusal-requires
put_refusal-requires c = (let p = c.requires.most_reply_in_bounds in omega arith)

pub returns-then-part-n : goal.returns-then-part-n
returns-then-part-n c =
    let table_of : Columns = columns c.args.table.now.vertices c.args.table.now.heads.now c.args.table.now.own.now c.args.table.now.strikes.now c.args.table.now.spans.now c.args.table.now.tails.now in
    reply_absent table_of c.args.part.0 _ c.if-part-n.true _ _ c.put_refusal.ensures

pub loop-i-init : goal.loop-i-init
unfolding use_rows uses_below
loop-i-init c = (omega arith, written_none _, omega arith)

pub slice_bounds-put_use-count : goal.slice_bounds-put_use-count
slice_bounds-put_use-count c =
    let table_of : Columns = columns c.args.table.now.vertices c.args.table.now.heads.now c.args.table.now.own.now c.args.table.now.strikes.now c.args.table.now.spans.now c.args.table.now.tails.now in
    let few : length c.args.table.now.heads.now ≤ most_edges = (table_accepted table_of c.requires.tails_value).edges in
    let g = c.loop-i in
    use_starts table_of c.args.part.0 _ _ g.i (length c.args.table.now.heads.now) g.at c.loop-i-test.true g.invariant.1 g.invariant.2 few c.requires.most_reply_in_bounds

pub slice_bounds-put_use-start : goal.slice_bounds-put_use-start
slice_bounds-put_use-start c = let r = slice_bounds-put_use-count c in search (rules, r)

pub put_use-at-requires : goal.put_use-at-requires
put_use-at-requires c =
    let table_of : Columns = columns c.args.table.now.vertices c.args.table.now.heads.now c.args.table.now.own.now c.args.table.now.strikes.now c.args.table.now.spans.now c.args.table.now.tails.now in
    let few : length c.args.table.now.heads.now ≤ most_edges = (table_accepted table_of c.requires.tails_value).edges in
    let g = c.loop-i in
    let h = c.loop-i-test.true in
    row_in table_of g.i _ c.requires.tails_value h
    (use_room table_of c.args.part.0 _ _ g.i (length c.args.table.now.heads.now) g.at h g.invariant.1 g.invariant.2 few c.requires.most_reply_in_bounds)

pub loop-i-preserved : goal.loop-i-preserved
unfolding use_row
loop-i-preserved c =
    let table_of : Columns = columns c.args.table.now.vertices c.args.table.now.heads.now c.args.table.now.own.now c.args.table.now.strikes.now c.args.table.now.spans.now c.args.table.now.tails.now in
    let few : length c.args.table.now.heads.now ≤ most_edges = (table_accepted table_of c.requires.tails_value).edges in
    let g = c.loop-i in
    let h = c.loop-i-test.true in
    let e = c.put_use-at.ensures in (
      omega arith,
      use_next table_of c.args.part.0 _ _ g.i (length c.args.table.now.heads.now) g.at h g.invariant.1 g.invariant.2 few c.requires.most_reply_in_bounds _ _ e.upper_bound e.fact,
      (let a = g.invariant.2 in let b = e.upper_bound in omega arith),
    )

pub overflow_add-at : goal.overflow_add-at
overflow_add-at c =
    let table_of : Columns = columns c.args.table.now.vertices c.args.table.now.heads.now c.args.table.now.own.now c.args.table.now.strikes.now c.args.table.now.spans.now c.args.table.now.tails.now in
    let few : length c.args.table.now.heads.now ≤ most_edges = (table_accepted table_of c.requires.tails_value).edges in
    let a = (loop-i-preserved c).2 in
    let h = c.loop-i-test.true in
    let f = few in
    omega arith

pub shape_of-room : goal.shape_of-room
shape_of-room c = c.loop-i.invariant.1.long

pub returns : goal.returns
returns c =
    let table_of : Columns = columns c.args.table.now.vertices c.args.table.now.heads.now c.args.table.now.own.now c.args.table.now.strikes.now c.args.table.now.spans.now c.args.table.now.tails.now in
    let g = c.loop-i in
    reply_rows table_of c.args.part.0 _ c.if-part-n.false g.i g.at _ g.invariant.0 c.loop-i-test.false g.invariant.1
