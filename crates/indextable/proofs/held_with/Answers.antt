-- `indextable::held_with` meets its contract: the index is built and compared, pairs and then list. Assumes nothing.
use mathlib.Core.Path.{sym, ◌∙◌}
use native.Mathlib.Omega.{arith}
use lib.Seq.{length-take-le}
use Rattle.indextable.proofs.Holds.{held_few, total_few, total_fits, held_short, held_other_pairs, held_other_list, held_right}
use Rattle.indextable.proofs.held_with.Goals as goal

pub returns-then-index-places : goal.returns-then-index-places
returns-then-index-places c = held_few c.requires _ _ c.if-index-places.true

pub overflow_add-total : goal.overflow_add-total
overflow_add-total c =
    omega (arith, total_few c.requires c.args.index.now c.args.list.now c.if-index-places.false c.index_uses-total.ensures, c.requires.one)

pub returns-then-list-total : goal.returns-then-list-total
returns-then-list-total c =
    held_short c.requires c.args.index.now c.args.list.now c.if-index-places.false c.index_uses-total.ensures c.if-list-total.true

pub slice_bounds-equal-end : goal.slice_bounds-equal-end
slice_bounds-equal-end c = sym (length-take-le _ _ (omega arith))

pub returns-then-not-equal : goal.returns-then-not-equal
returns-then-not-equal c =
    held_other_pairs c.requires c.args.index.now c.args.list.now c.if-index-places.false c.index_uses-total.ensures
    c.if-list-total.false (sym c.equal.ensures ∙ c.if-not-equal.true)

pub slice_bounds-equal-end-2 : goal.slice_bounds-equal-end-2
slice_bounds-equal-end-2 c = sym (length-take-le _ _ (omega (arith, c.if-list-total.false)))

pub slice_bounds-equal-end-3 : goal.slice_bounds-equal-end-3
slice_bounds-equal-end-3 c = omega (arith, total_fits c.requires c.args.index.now c.args.list.now c.if-index-places.false c.index_uses-total.ensures)

pub slice_bounds-equal-end-4 : goal.slice_bounds-equal-end-4
slice_bounds-equal-end-4 c =
    sym (length-take-le _ _ (total_fits c.requires c.args.index.now c.args.list.now c.if-index-places.false c.index_uses-total.ensures))

pub returns-then-not-equal-2 : goal.returns-then-not-equal-2
returns-then-not-equal-2 c =
    let yes-pairs = sym c.equal.ensures ∙ c.if-not-equal.false in
    held_other_list c.requires c.args.index.now c.args.list.now c.if-index-places.false c.index_uses-total.ensures
    c.if-list-total.false yes-pairs (sym c.equal-2.ensures ∙ c.if-not-equal-2.true)

pub returns : goal.returns
returns c =
    let yes-pairs = sym c.equal.ensures ∙ c.if-not-equal.false in
    held_right c.requires c.args.index.now c.args.list.now c.if-index-places.false c.index_uses-total.ensures c.if-list-total.false
    yes-pairs (sym c.equal-2.ensures ∙ c.if-not-equal-2.false)
