use mathlib.Core.Path.{◌≡◌, sym, ◌∙◌, subst}
use mathlib.Core.List.{List}
use mathlib.Core.Logic.{◌≢◌}
use Prim.Native.Nat.{ℕ, suc, ◌-◌, ◌<◌}
use native.Mathlib.Omega.{arith}
use lib.ListN.{length}
use Rattle.provenance.proofs.Pieces.{pieces_most}
use Rattle.pieces.specs.Counting.{lists, choices, count_of, Countable, Staged}
use Rattle.pieces.proofs.Stages.{countable_still, staged_low, count_is, Walked, walked_from, walked_less, walked_more, walked_end}
use Rattle.pieces.proofs.count_layer.Goals as goal

-- the columns at the head of the loop
ready : {spans tails depths edges pieces pieces' : List ℕ} {count : ℕ → ℕ} {d next : ℕ} → Countable spans tails depths edges pieces
    → Walked depths count d next pieces' → Countable spans tails depths edges pieces'
ready k w = countable_still k (w.staged.level ∙ sym k.pieces_level)

-- the vertex that is next
one_less : {n : ℕ} → n ≢ 0 → n ≡ suc (n - 1)
one_less h = omega arith

inside : {depths pieces : List ℕ} {count : ℕ → ℕ} {d next : ℕ} → Walked depths count d next pieces → next ≢ 0 → next - 1 < length depths
inside {next = next} w h = (w.vertex (next - 1) (one_less h)).0

pub loop-next-init : goal.loop-next-init
loop-next-init c = walked_from c.requires.end c.requires.staged

pub overflow_sub-i : goal.overflow_sub-i
overflow_sub-i c = let n = c.loop-next-test.true in omega arith

pub offset_bounds-pieces-i : goal.offset_bounds-pieces-i
offset_bounds-pieces-i c = omega (arith, inside c.loop-next.invariant c.loop-next-test.true, c.loop-next.invariant.staged.level)

pub bounds-pieces-i : goal.bounds-pieces-i
bounds-pieces-i c = omega (arith, inside c.loop-next.invariant c.loop-next-test.true, c.loop-next.invariant.staged.level)

pub count_vertex-count-requires : goal.count_vertex-count-requires
count_vertex-count-requires c =
    let a = c.args in
    let w = c.loop-next.invariant in
    let k = ready c.requires.countable w in
    let most = pieces_most (lists a.spans.now a.tails.now) (choices a.depths.now a.edges.now) in
    (k, staged_low k.few most w.staged, inside w c.loop-next-test.true)

pub offset_bounds-pieces-i-in-loop-next : goal.offset_bounds-pieces-i-in-loop-next
offset_bounds-pieces-i-in-loop-next c = omega (arith, inside c.loop-next.invariant c.loop-next-test.true, c.loop-next.invariant.staged.level)

pub bounds-pieces-i-in-loop-next : goal.bounds-pieces-i-in-loop-next
bounds-pieces-i-in-loop-next c = omega (arith, inside c.loop-next.invariant c.loop-next-test.true, c.loop-next.invariant.staged.level)

pub loop-next-smaller : goal.loop-next-smaller
loop-next-smaller c =
    let e = one_less c.loop-next-test.true in
    omega (arith, e, walked_less c.loop-next.invariant e)

pub loop-next-preserved : goal.loop-next-preserved
loop-next-preserved c =
    let a = c.args in
    let w = c.loop-next.invariant in
    let v = c.loop-next.next - 1 in
    let next_is = one_less c.loop-next-test.true in
    let e = (w.vertex v next_is).1 in
    let count = count_of a.spans.now a.tails.now a.depths.now a.edges.now in
    let staged = subst (λ (z : ℕ). Staged a.depths.now count z c.loop-next.next c.loop-next.pieces) (sym e) w.staged in
    walked_more w next_is (c.count_vertex-count.ensures ∙ count_is v (ready c.requires.countable w) staged)

pub shape_of-pieces : goal.shape_of-pieces
shape_of-pieces c = c.loop-next.invariant.staged.level ∙ sym c.requires.countable.pieces_level

pub returns : goal.returns
returns c = walked_end c.loop-next.invariant c.loop-next-test.false
