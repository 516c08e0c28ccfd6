use mathlib.Core.Path.{◌≡◌, sym, ◌∙◌, ap}
use mathlib.Core.List.{List}
use Prim.Native.Nat.{ℕ, ◌+◌, ◌-◌, ◌*◌, ◌<◌, ◌≤◌}
use native.Mathlib.Omega.{arith}
use lib.ListN.{length, get_or, set, take, drop, length-set}
use lib.Seq.{get_or-set_other}
use Rattle.columns.specs.Columns.{tail_of}
use Rattle.uses.specs.Uses.{pairs_in}
use Rattle.uses.specs.Indexable.{TailReadable, Counting}
use Rattle.uses.proofs.Seen.{seen_in, places_are, vertex_below, one_more, whole}
use Rattle.uses.proofs.Counting.{counted_by, count_first, count_last, count_fits, count_again, count_new}
use Rattle.uses.proofs.count_edge.Goals as goal
use Rattle.uses.proofs.count_edge.Goals.{then-index-v, else-index-v}

-- what the call asks for: the tail can be read
module _ {e : ℕ} {spans tails index₀ : List ℕ} (q : Counting e spans tails index₀) where
  tail-in : TailReadable (pairs_in index₀) spans tails e
  tail-in = q.readable.each e q.numbered

  -- the places of the tail
  abbrev places : List ℕ
  places = take (get_or spans (2 * e) 0 + get_or spans (2 * e + 1) 0 - get_or spans (2 * e) 0) (drop (get_or spans (2 * e) 0) tails)

  its : places ≡ tail_of spans tails e
  its = places_are (get_or spans (2 * e) 0) (get_or spans (2 * e + 1) 0) tails

  -- the next vertex has its places
  module _ (i : ℕ) (h : i < length places) where
    abbrev vertex : ℕ
    vertex = get_or places i 0

    below : vertex < pairs_in index₀
    below = vertex_below tail-in its i h

    low : 2 * vertex + 1 < length index₀
    low = omega (arith, below)

    -- where i vertices of the tail are passed
    module _ {index : List ℕ} (p : index ≡ counted_by (tail_of spans tails) e (seen_in (take i (tail_of spans tails e))) (pairs_in index₀)) where
      count_kept : get_or (set index (2 * vertex) (e + 1)) (2 * vertex + 1) 0 ≡ get_or index (2 * vertex + 1) 0
      count_kept = get_or-set_other index (2 * vertex) (2 * vertex + 1) (e + 1) 0 (λ z. omega arith)

      few : get_or (set index (2 * vertex) (e + 1)) (2 * vertex + 1) 0 ≤ e + 1
      few = omega (arith, count_kept, count_fits _ _ _ vertex _ below p)

      counted_new : (get_or index (2 * vertex) 0 ≡ e + 1 → ⊥) → set (set index (2 * vertex) (e + 1)) (2 * vertex + 1) (get_or (set index (2 * vertex) (e + 1)) (2 * vertex + 1) 0 + 1)
          ≡ counted_by (tail_of spans tails) e (seen_in (take (i + 1) (tail_of spans tails e))) (pairs_in index₀)
      counted_new d =
          ap (λ (z : ℕ). set (set index (2 * vertex) (e + 1)) (2 * vertex + 1) (z + 1)) count_kept
          ∙ count_new _ _ _ vertex _ below p d
          ∙ ap (λ (vs : List ℕ). counted_by (tail_of spans tails) e (seen_in vs) (pairs_in index₀)) (sym (one_more tail-in its i h))

      counted_again : get_or index (2 * vertex) 0 ≡ e + 1 → index ≡ counted_by (tail_of spans tails) e (seen_in (take (i + 1) (tail_of spans tails e))) (pairs_in index₀)
      counted_again d =
          count_again _ _ _ vertex _ below p d
          ∙ ap (λ (vs : List ℕ). counted_by (tail_of spans tails) e (seen_in vs) (pairs_in index₀)) (sym (one_more tail-in its i h))

pub loop-part-init : goal.loop-part-init
loop-part-init c = c.requires.counts ∙ count_first _ _ _

pub overflow_mul-v : goal.overflow_mul-v
overflow_mul-v c = omega (arith, low c.requires c.loop-part.part-index c.loop-part-test.true)

pub offset_bounds-index-v : goal.offset_bounds-index-v
offset_bounds-index-v c = omega (arith, low c.requires c.loop-part.part-index c.loop-part-test.true)

pub overflow_mul-index : goal.overflow_mul-index
overflow_mul-index c = omega (arith, low c.requires c.loop-part.part-index c.loop-part-test.true)

pub offset_bounds-index-v-then-index-v : goal.offset_bounds-index-v-then-index-v
offset_bounds-index-v-then-index-v c = omega (arith, low c.requires c.loop-part.part-index c.loop-part-test.true)

pub overflow_mul-index-then-index-v : goal.overflow_mul-index-then-index-v
overflow_mul-index-then-index-v c = omega (arith, low c.requires c.loop-part.part-index c.loop-part-test.true)

pub overflow_add-index-then-index-v : goal.overflow_add-index-then-index-v
overflow_add-index-then-index-v c = omega (arith, low c.requires c.loop-part.part-index c.loop-part-test.true)

pub offset_bounds-index-v-then-index-v-2 : goal.offset_bounds-index-v-then-index-v-2
offset_bounds-index-v-then-index-v-2 c = omega (arith, low c.requires c.loop-part.part-index c.loop-part-test.true)

pub bounds-index-v : goal.bounds-index-v
bounds-index-v c = omega (arith, low c.requires c.loop-part.part-index c.loop-part-test.true, c.loop-part.auto.index)

pub bounds-index-v-then-index-v : goal.bounds-index-v-then-index-v
bounds-index-v-then-index-v c = omega (arith, low c.requires c.loop-part.part-index c.loop-part-test.true, c.loop-part.auto.index)

pub bounds-index-v-then-index-v-2 : goal.bounds-index-v-then-index-v-2
bounds-index-v-then-index-v-2 c = simp length-set (omega (arith, low c.requires c.loop-part.part-index c.loop-part-test.true, c.loop-part.auto.index))

pub bounds-index-v-then-index-v-3 : goal.bounds-index-v-then-index-v-3
bounds-index-v-then-index-v-3 c = simp length-set (omega (arith, low c.requires c.loop-part.part-index c.loop-part-test.true, c.loop-part.auto.index))

pub overflow_add-index-then-index-v-2 : goal.overflow_add-index-then-index-v-2
overflow_add-index-then-index-v-2 c = omega (arith, few c.requires c.loop-part.part-index c.loop-part-test.true c.loop-part.invariant)

pub loop-part-preserved : goal.loop-part-preserved
loop-part-preserved c = elim c.if-index-v.branch [
  | then-index-v w ↦ w.index-is ∙ counted_new c.requires c.loop-part.part-index c.loop-part-test.true c.loop-part.invariant w.if-index-v.true
  | else-index-v w ↦ w.index-is ∙ counted_again c.requires c.loop-part.part-index c.loop-part-test.true c.loop-part.invariant w.if-index-v.false
]

pub returns : goal.returns
returns c =
    c.loop-part.invariant
    ∙ ap
    (λ (vs : List ℕ). counted_by (tail_of c.args.spans.now c.args.tails.now) c.args.e.0 (seen_in vs) (pairs_in c.args.index.now))
    (whole (tail-in c.requires) (its c.requires) c.loop-part.part-index c.loop-part-test.false)
    ∙ count_last _ _ _
