-- `indextable::index_with` meets its contract: the offsets say whether there is room; the list is filled and the pairs put behind it. Assumes nothing.
use native.Mathlib.Omega.{arith}
use Rattle.indextable.proofs.Laws.{few_places, short_list, fillable, pairs_fit, all_laid}
use Rattle.indextable.proofs.index_with.Goals as goal

pub returns-then-index-pairs : goal.returns-then-index-pairs
returns-then-index-pairs c = few_places c.requires _ _ c.if-index-pairs.true

pub returns-then-list-total : goal.returns-then-list-total
returns-then-list-total c = short_list c.requires _ _ c.if-index-pairs.false (omega (arith, c.if-list-total.true, c.offsets-total.ensures.0))

pub fill-requires : goal.fill-requires
fill-requires c =
    fillable c.requires c.args.index.now c.args.list.now c.if-index-pairs.false (omega (arith, c.if-list-total.false, c.offsets-total.ensures.0)) c.offsets-total.ensures.1

pub put-requires : goal.put-requires
put-requires c =
    pairs_fit c.requires c.args.index.now c.args.list.now c.if-index-pairs.false
    (omega (arith, c.if-list-total.false, c.offsets-total.ensures.0)) c.offsets-total.ensures.1 c.fill.ensures

pub returns : goal.returns
returns c =
    all_laid c.requires c.args.index.now c.args.list.now c.if-index-pairs.false
    (omega (arith, c.if-list-total.false, c.offsets-total.ensures.0)) c.offsets-total.ensures.1 c.fill.ensures c.offsets-total.ensures.0 c.put.ensures
