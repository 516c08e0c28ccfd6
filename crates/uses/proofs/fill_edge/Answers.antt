use mathlib.Core.Path.{◌≡◌, sym, ◌∙◌, ap}
use mathlib.Core.Bool.{true, false}
use mathlib.Core.List.{List}
use Prim.Native.Nat.{ℕ, ◌+◌, ◌-◌, ◌*◌, ◌≤◌, ◌<◌}
use native.Mathlib.Omega.{arith}
use lib.ListN.{length, get_or, set, take, drop}
use Rattle.weights.specs.Lists.{member}
use Rattle.weights.proofs.Lists.{member-take}
use Rattle.columns.specs.Columns.{tail_of}
use Rattle.uses.specs.Uses.{pairs_in, use_offset}
use Rattle.uses.specs.Indexable.{TailReadable, ends_in, Filling}
use Rattle.uses.proofs.Pairs.{length_pairs}
use Rattle.uses.proofs.Seen.{seen_in, uses_by, places_are, vertex_below, vertex_listed, one_more, whole}
use Rattle.uses.proofs.Filling.{FilledBy, fill_first, fill_last, start_is, size_is, end_within, ends_seen, fill_again, place_free, fill_new}
use Rattle.uses.proofs.fill_edge.Goals as goal
use Rattle.uses.proofs.fill_edge.Goals.{then-not-ends_in, else-not-ends_in}

-- what the call asks for, and where i vertices of the tail are passed
module _ {e : ℕ} {spans tails index₀ list₀ : List ℕ} (q : Filling e spans tails index₀ list₀) (i : ℕ) {index list : List ℕ}
    (f : FilledBy (tail_of spans tails) (pairs_in spans) (pairs_in index₀) e (seen_in (take i (tail_of spans tails e))) index list list₀) where
  -- the tail can be read; its next vertex has its places, of which there are as many as there were
  tail-in : TailReadable (pairs_in index₀) spans tails e
  tail-in = q.readable.each e q.numbered

  level : length index ≡ length index₀
  level = ap length f.lengths ∙ length_pairs _ _ _ ∙ sym (ap length q.so_far.lengths ∙ length_pairs _ _ _)

  -- the places of the tail
  abbrev places : List ℕ
  places = take (get_or spans (2 * e) 0 + get_or spans (2 * e + 1) 0 - get_or spans (2 * e) 0) (drop (get_or spans (2 * e) 0) tails)

  its : places ≡ tail_of spans tails e
  its = places_are (get_or spans (2 * e) 0) (get_or spans (2 * e + 1) 0) tails

  abbrev vertex : ℕ
  vertex = get_or places i 0

  abbrev tail : ℕ → List ℕ
  tail = tail_of spans tails

  abbrev passed : List ℕ
  passed = take i (tail e)

  -- where the uses of the vertex start, and how many stand
  abbrev from : ℕ
  from = get_or index (2 * vertex) 0

  abbrev many : ℕ
  many = get_or index (2 * vertex + 1) 0

  among : (v : ℕ) → member v passed ≡ true → member v (tail e) ≡ true
  among v = member-take v (tail e) i

  room : use_offset tail (pairs_in spans) (pairs_in index₀) ≤ length list
  room = omega (arith, q.room, f.laid.level)

  module _ (h : i < length places) where
    below : vertex < pairs_in index₀
    below = vertex_below tail-in its i h

    low : 2 * vertex + 1 < length index₀
    low = omega (arith, below)

    listed : member vertex (tail e) ≡ true
    listed = vertex_listed tail-in its i h

    starts : from ≡ use_offset tail (pairs_in spans) vertex
    starts = start_is _ _ _ _ q.numbered passed vertex below among listed f

    sized : many ≡ length (uses_by tail e (seen_in passed) vertex)
    sized = size_is _ _ _ _ q.numbered passed vertex below among listed f

    ends : from + many ≤ length list
    ends = omega (arith, starts, sized, end_within _ _ _ _ q.numbered passed vertex below among listed f, q.room, f.laid.level)

    -- whether the vertex was passed before
    seen : ends_in list from many e ≡ member vertex passed
    seen = rw (starts, sized) (ends_seen _ _ _ _ q.numbered passed vertex below among listed f)

    free : ends_in list from many e ≡ false → from + many < length list₀
    free p = omega (arith, starts, sized, place_free _ _ _ _ q.numbered passed vertex below among listed f (sym seen ∙ p), q.room)

    -- what stands behind the vertex
    filled_new : ends_in list from many e ≡ false
        → FilledBy tail (pairs_in spans) (pairs_in index₀) e (seen_in (take (i + 1) (tail e))) (set index (2 * vertex + 1) (many + 1)) (set list (from + many) e) list₀
    filled_new p = rw (one_more tail-in its i h) (fill_new _ _ _ _ q.numbered passed vertex below among listed f (sym seen ∙ p) room)

    filled_again : ends_in list from many e ≡ true → FilledBy tail (pairs_in spans) (pairs_in index₀) e (seen_in (take (i + 1) (tail e))) index list list₀
    filled_again p = rw (one_more tail-in its i h) (fill_again _ _ _ _ q.numbered passed vertex below among listed f (sym seen ∙ p))

  filled_whole : length places ≤ i → FilledBy tail (pairs_in spans) (pairs_in index₀) e (seen_in (tail e)) index list list₀
  filled_whole h = rw (whole tail-in its i h) at f

pub loop-part-init : goal.loop-part-init
loop-part-init c = fill_first _ _ _ _ _ _ _ c.requires.so_far

pub overflow_mul-start : goal.overflow_mul-start
overflow_mul-start c = omega (arith, low c.requires c.loop-part.part-index c.loop-part.invariant c.loop-part-test.true)

pub offset_bounds-index-v : goal.offset_bounds-index-v
offset_bounds-index-v c = omega (arith, low c.requires c.loop-part.part-index c.loop-part.invariant c.loop-part-test.true)

pub overflow_mul-k : goal.overflow_mul-k
overflow_mul-k c = omega (arith, low c.requires c.loop-part.part-index c.loop-part.invariant c.loop-part-test.true)

pub overflow_add-k : goal.overflow_add-k
overflow_add-k c = omega (arith, low c.requires c.loop-part.part-index c.loop-part.invariant c.loop-part-test.true)

pub offset_bounds-index-v-in-loop-part : goal.offset_bounds-index-v-in-loop-part
offset_bounds-index-v-in-loop-part c = omega (arith, low c.requires c.loop-part.part-index c.loop-part.invariant c.loop-part-test.true)

pub overflow_mul-index : goal.overflow_mul-index
overflow_mul-index c = omega (arith, low c.requires c.loop-part.part-index c.loop-part.invariant c.loop-part-test.true)

pub overflow_add-index : goal.overflow_add-index
overflow_add-index c = omega (arith, low c.requires c.loop-part.part-index c.loop-part.invariant c.loop-part-test.true)

pub offset_bounds-index-v-then-not-ends_in : goal.offset_bounds-index-v-then-not-ends_in
offset_bounds-index-v-then-not-ends_in c = omega (arith, low c.requires c.loop-part.part-index c.loop-part.invariant c.loop-part-test.true)

pub bounds-index-v : goal.bounds-index-v
bounds-index-v c = omega (arith, low c.requires c.loop-part.part-index c.loop-part.invariant c.loop-part-test.true, c.loop-part.auto.index)

pub bounds-index-v-in-loop-part : goal.bounds-index-v-in-loop-part
bounds-index-v-in-loop-part c = omega (arith, low c.requires c.loop-part.part-index c.loop-part.invariant c.loop-part-test.true, c.loop-part.auto.index)

pub bounds-index-v-then-not-ends_in : goal.bounds-index-v-then-not-ends_in
bounds-index-v-then-not-ends_in c = omega (arith, low c.requires c.loop-part.part-index c.loop-part.invariant c.loop-part-test.true, c.loop-part.auto.index)

pub bounds-index-v-then-not-ends_in-2 : goal.bounds-index-v-then-not-ends_in-2
bounds-index-v-then-not-ends_in-2 c = omega (arith, low c.requires c.loop-part.part-index c.loop-part.invariant c.loop-part-test.true, c.loop-part.auto.index)

pub ends_in-requires : goal.ends_in-requires
ends_in-requires c = ends c.requires c.loop-part.part-index c.loop-part.invariant c.loop-part-test.true

pub overflow_add-list : goal.overflow_add-list
overflow_add-list c = omega (arith, free c.requires c.loop-part.part-index c.loop-part.invariant c.loop-part-test.true (sym c.if-not-ends_in.ensures))

pub offset_bounds-list-start : goal.offset_bounds-list-start
offset_bounds-list-start c = omega (arith, free c.requires c.loop-part.part-index c.loop-part.invariant c.loop-part-test.true (sym c.if-not-ends_in.ensures))

pub overflow_add-index-then-not-ends_in : goal.overflow_add-index-then-not-ends_in
overflow_add-index-then-not-ends_in c = omega (arith, free c.requires c.loop-part.part-index c.loop-part.invariant c.loop-part-test.true (sym c.if-not-ends_in.ensures))

pub bounds-list-start : goal.bounds-list-start
bounds-list-start c = omega (arith, free c.requires c.loop-part.part-index c.loop-part.invariant c.loop-part-test.true (sym c.if-not-ends_in.ensures), c.loop-part.auto.list)

pub loop-part-preserved : goal.loop-part-preserved
loop-part-preserved c = elim c.if-not-ends_in.branch [
  | then-not-ends_in w ↦ rw (w.index-is, w.list-is) (filled_new c.requires c.loop-part.part-index c.loop-part.invariant c.loop-part-test.true (sym w.if-not-ends_in.ensures))
  | else-not-ends_in w ↦ rw (w.index-is, w.list-is) (filled_again c.requires c.loop-part.part-index c.loop-part.invariant c.loop-part-test.true (sym w.if-not-ends_in.ensures))
]

pub returns : goal.returns
returns c = fill_last _ _ _ _ _ _ _ (filled_whole c.requires c.loop-part.part-index c.loop-part.invariant c.loop-part-test.false)
