-- `append::renew` meets its contract: the table in use is indexed and labelled. Assumes nothing.
use mathlib.Core.Path.{sym}
use lib.Seq.{length-take-le}
use Rattle.columns.specs.Columns.{Entries, Columns, columns, entries}
use Rattle.columns.specs.Longer.{in_use_of}
use Rattle.settle.proofs.Settled.{told_accepted, told_answers}
use Rattle.append.proofs.Renewing.{held_accepted, held_indexable, pairs_renewed, list_renewed}
use Rattle.append.proofs.renew.Goals as goal

pub slice_bounds-index_uses-end : goal.slice_bounds-index_uses-end
slice_bounds-index_uses-end c = sym (length-take-le _ _ c.requires.spans)

pub slice_bounds-index_uses-end-2 : goal.slice_bounds-index_uses-end-2
slice_bounds-index_uses-end-2 c = sym (length-take-le _ _ c.requires.tails)

pub slice_bounds-index_uses-end-4 : goal.slice_bounds-index_uses-end-4
slice_bounds-index_uses-end-4 c = sym (length-take-le _ _ c.requires.places)

pub index_uses-requires : goal.index_uses-requires
index_uses-requires c =
    let came : Entries = let a = c.args in entries a.weights.now a.depths.now a.edges.now a.pieces.now in
    let table_of : Columns = let a = c.args in columns a.n a.heads.now a.own.now a.strikes.now a.spans.now a.tails.now in
    held_indexable table_of c.args.in_use came c.args.index.now c.args.list.now c.requires

pub slice_bounds-label-end : goal.slice_bounds-label-end
slice_bounds-label-end c = sym (length-take-le _ _ c.requires.heads)

pub slice_bounds-label-end-2 : goal.slice_bounds-label-end-2
slice_bounds-label-end-2 c = sym (length-take-le _ _ c.requires.own)

pub slice_bounds-label-end-3 : goal.slice_bounds-label-end-3
slice_bounds-label-end-3 c = sym (length-take-le _ _ c.requires.strikes)

pub slice_bounds-label-end-4 : goal.slice_bounds-label-end-4
slice_bounds-label-end-4 c = sym (length-take-le _ _ c.requires.spans)

pub slice_bounds-label-end-5 : goal.slice_bounds-label-end-5
slice_bounds-label-end-5 c = sym (length-take-le _ _ c.requires.tails)

pub label-requires : goal.label-requires
label-requires c =
    let came : Entries = let a = c.args in entries a.weights.now a.depths.now a.edges.now a.pieces.now in
    let table_of : Columns = let a = c.args in columns a.n a.heads.now a.own.now a.strikes.now a.spans.now a.tails.now in
    told_accepted (in_use_of table_of c.args.in_use) came (held_accepted table_of c.args.in_use came c.args.index.now c.args.list.now c.requires)

pub returns : goal.returns
returns c =
    let came : Entries = let a = c.args in entries a.weights.now a.depths.now a.edges.now a.pieces.now in
    let table_of : Columns = let a = c.args in columns a.n a.heads.now a.own.now a.strikes.now a.spans.now a.tails.now in
    let t = in_use_of table_of c.args.in_use in
    let h = held_accepted table_of c.args.in_use came c.args.index.now c.args.list.now c.requires in (
      told_answers t came h c.args.measure c.label.ensures,
      (
        pairs_renewed table_of c.args.in_use came c.args.index.now c.args.list.now c.requires c.index_uses.ensures,
        list_renewed table_of c.args.in_use came c.args.index.now c.args.list.now c.requires c.index_uses.ensures,
      ),
    )
