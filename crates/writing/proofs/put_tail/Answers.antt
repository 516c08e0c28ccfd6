use Prim.Native.Nat.{◌+◌}
use native.Mathlib.Omega.{arith}
use borrow.Author.Rules.{rules}
use Rattle.text.specs.Render.{tail_text}
use Rattle.writing.proofs.Written.{written_none}
use Rattle.writing.proofs.Laws.{tail_next, tail_room, tail_ends, listed_within}
use Rattle.writing.proofs.put_tail.Goals as goal

pub loop-v-init : goal.loop-v-init
unfolding tail_text
loop-v-init c = written_none _

pub slice_bounds-put_spaced-count : goal.slice_bounds-put_spaced-count
slice_bounds-put_spaced-count c = (tail_room c.args.tail.now _ _ c.loop-v.v-index _ (omega arith) c.loop-v.invariant c.requires).0

pub slice_bounds-put_spaced-start : goal.slice_bounds-put_spaced-start
slice_bounds-put_spaced-start c =
    let r = (tail_room c.args.tail.now _ _ c.loop-v.v-index _ (omega arith) c.loop-v.invariant c.requires).0 in
    search (rules, r)

pub put_spaced-at-requires : goal.put_spaced-at-requires
put_spaced-at-requires c = (tail_room c.args.tail.now _ _ c.loop-v.v-index _ (omega arith) c.loop-v.invariant c.requires).1

pub overflow_add-at : goal.overflow_add-at
overflow_add-at c =
    let w = (tail_next c.args.tail.now _ _ c.loop-v.v-index _ _ _ (omega arith) c.loop-v.invariant c.requires c.put_spaced-at.ensures).count in
    let a = listed_within c.args.tail.now (c.loop-v.v-index + 1) in
    let p = c.requires in
    omega arith

pub loop-v-preserved : goal.loop-v-preserved
loop-v-preserved c = tail_next c.args.tail.now _ _ c.loop-v.v-index _ _ _ (omega arith) c.loop-v.invariant c.requires c.put_spaced-at.ensures

pub bounds-room-at : goal.bounds-room-at
bounds-room-at c =
    let w = c.loop-v.invariant in let n = w.count in let l = w.long in let a = listed_within c.args.tail.now c.loop-v.v-index in
    let p = c.requires in
    omega arith

pub overflow_add-result : goal.overflow_add-result
overflow_add-result c =
    let w = c.loop-v.invariant in let n = w.count in let a = listed_within c.args.tail.now c.loop-v.v-index in
    let p = c.requires in
    omega (arith, c.well_formed)

pub returns : goal.returns
returns c = tail_ends c.args.tail.now _ _ c.loop-v.v-index _ (omega arith) c.loop-v.invariant c.requires
