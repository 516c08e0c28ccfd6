use Rattle.std.specs.Prelude.{Option, Some, None}
use mathlib.Core.Path.{◌≡◌, sym, ◌∙◌, ap, subst}
use mathlib.Core.List.{List}
use Prim.Native.Nat.{ℕ, ◌-◌, ◌≤◌, ◌<◌}
use native.Mathlib.Omega.{arith}
use borrow.Author.Rules.{rules}
use lib.ListN.{length, get_or, set}
use Rattle.columns.specs.Columns.{tail_of}
use Rattle.bill.specs.Walk.{vertex_bill, tail_bill, AllGrounded, Grounded, KnownStill, spend}
use Rattle.bill.proofs.Walks.{Below, each_at, grounded, bought, is_left, root_unpaid, root_paid, line_paid, none_paid, next_paid, next_unpaid, spend_checked}
use Rattle.bill.proofs.Lengths.{still_known, known_on, known_paid, vertex_known, known_more}
use Rattle.bill.proofs.+tail_spend_vertex_spend.Goals as goal

-- a part of a tail that is grounded
part_below : (spans tails edges : List ℕ) (depth : ℕ) (tail : List ℕ) {i : ℕ} → i < length tail → AllGrounded spans tails edges depth tail → Below spans tails edges depth (get_or tail i 0)
part_below spans tails edges depth tail h g = grounded spans tails edges depth _ (each_at _ tail _ h g)

-- of a part that is grounded, the budget not being 0: what its tail left of the budget is what the bill leaves
module _ (spans tails edges : List ℕ) (depth v : ℕ) (g : Grounded spans tails edges depth v) {b : ℕ} (some : ¬ (b ≡ 0)) {vs : List ℕ} (q : vs ≡ tail_of spans tails (get_or edges v 0)) where
  vertex_paid : {r : Option ℕ} → r ≡ spend (b - 1) (length (tail_bill spans tails edges (depth - 1) vs)) → r ≡ spend b (length (vertex_bill spans tails edges depth v))
  vertex_paid p =
      root_paid _ (grounded spans tails edges depth v g).lines some
      (p ∙ ap (λ (vs : List ℕ). spend (b - 1) (length (tail_bill spans tails edges (depth - 1) vs))) q)

  -- the bill has a line, the budget pays for it, and this is left
  vertex_left : {rest : ℕ} → Some rest ≡ spend (b - 1) (length (tail_bill spans tails edges (depth - 1) vs))
      → let n = length (vertex_bill spans tails edges depth v) in (0 < n) × (n ≤ b) × (rest ≡ b - n)
  vertex_left p =
      let paid = is_left _ _ (sym (vertex_paid p)) in
      (omega (arith, ap length (grounded spans tails edges depth v g).lines), paid.0, paid.1)

  -- the column stays right with the length that is stored
  vertex_stored : {rest : ℕ} {before after : List ℕ} → Some rest ≡ spend (b - 1) (length (tail_bill spans tails edges (depth - 1) vs))
      → KnownStill spans tails edges before after → KnownStill spans tails edges before (set after v (b - rest))
  vertex_stored p k = let n = vertex_left p in known_more depth v g (omega (arith, n.1, n.2)) k

pub tail_spend-loop-v-init : goal.tail_spend-loop-v-init
tail_spend-loop-v-init t c = (none_paid _ _ c.args.tail.now, still_known c.requires.1)

pub tail_spend-offset_bounds-edges-v : goal.tail_spend-offset_bounds-edges-v
tail_spend-offset_bounds-edges-v t c = omega (arith, (part_below _ _ _ _ _ c.loop-v-test.true c.requires.0).vertex)

pub tail_spend-bounds-edges-v : goal.tail_spend-bounds-edges-v
tail_spend-bounds-edges-v t c = (part_below _ _ _ _ _ c.loop-v-test.true c.requires.0).vertex

pub tail_spend-overflow_mul-size : goal.tail_spend-overflow_mul-size
tail_spend-overflow_mul-size t c = omega (arith, (part_below _ _ _ _ _ c.loop-v-test.true c.requires.0).placed.span)

pub tail_spend-overflow_add-size : goal.tail_spend-overflow_add-size
tail_spend-overflow_add-size t c = omega (arith, (part_below _ _ _ _ _ c.loop-v-test.true c.requires.0).placed.span)

pub tail_spend-offset_bounds-spans-root : goal.tail_spend-offset_bounds-spans-root
tail_spend-offset_bounds-spans-root t c = omega (arith, (part_below _ _ _ _ _ c.loop-v-test.true c.requires.0).placed.span)

pub tail_spend-bounds-spans-root : goal.tail_spend-bounds-spans-root
tail_spend-bounds-spans-root t c = (part_below _ _ _ _ _ c.loop-v-test.true c.requires.0).placed.span

pub tail_spend-returns-then-left-eq0-clause-value : goal.tail_spend-returns-then-left-eq0-clause-value
tail_spend-returns-then-left-eq0-clause-value t c =
    next_unpaid _ _ _ c.loop-v.invariant.0 c.loop-v-test.true (root_unpaid _ (part_below _ _ _ _ _ c.loop-v-test.true c.requires.0).lines c.if-left-eq0.true)

pub tail_spend-loop-v-preserved-then-size-eq0 : goal.tail_spend-loop-v-preserved-then-size-eq0
tail_spend-loop-v-preserved-then-size-eq0 t c =
    let one = bought _ _ _ (part_below _ _ _ _ _ c.loop-v-test.true c.requires.0) c.if-size-eq0.true in
    (next_paid _ _ _ c.loop-v.invariant.0 c.loop-v-test.true (line_paid _ one c.if-left-eq0.false), c.loop-v.invariant.1)

pub tail_spend-vertex_spend-requires : goal.tail_spend-vertex_spend-requires
tail_spend-vertex_spend-requires t c =
    (omega (arith, c.decreases), (each_at _ _ _ c.loop-v-test.true c.requires.0, c.loop-v.invariant.1.known))

pub tail_spend-returns-in_err-left-clause-value : goal.tail_spend-returns-in_err-left-clause-value
tail_spend-returns-in_err-left-clause-value t c =
    let none : c.from_residual.result ≡ None = search rules in
    none ∙ next_unpaid _ _ _ c.loop-v.invariant.0 c.loop-v-test.true c.in_err-left.ensures.value

pub tail_spend-loop-v-preserved : goal.tail_spend-loop-v-preserved
tail_spend-loop-v-preserved t c =
    (next_paid _ _ _ c.loop-v.invariant.0 c.loop-v-test.true c.in_ok-left.ensures.value, known_on c.loop-v.invariant.1 c.vertex_spend.ensures.known)

pub vertex_spend-returns-then-budget-eq0-clause-value : goal.vertex_spend-returns-then-budget-eq0-clause-value
vertex_spend-returns-then-budget-eq0-clause-value t c = root_unpaid _ (grounded _ _ _ _ _ c.requires.0).lines c.if-budget-eq0.true

pub vertex_spend-offset_bounds-lengths-i : goal.vertex_spend-offset_bounds-lengths-i
vertex_spend-offset_bounds-lengths-i t c = omega (arith, vertex_known _ _ c.requires.0 c.requires.1)

pub vertex_spend-bounds-lengths-i : goal.vertex_spend-bounds-lengths-i
vertex_spend-bounds-lengths-i t c = vertex_known _ _ c.requires.0 c.requires.1

pub vertex_spend-returns-then-known-ne0-clause-value : goal.vertex_spend-returns-then-known-ne0-clause-value
vertex_spend-returns-then-known-ne0-clause-value t c =
    known_paid _ _ c.requires.0 c.requires.1 c.if-known-ne0.true _ (spend_checked _ _ _ c.checked_sub.ensures)

pub vertex_spend-offset_bounds-edges-i : goal.vertex_spend-offset_bounds-edges-i
vertex_spend-offset_bounds-edges-i t c = omega (arith, (grounded _ _ _ _ _ c.requires.0).vertex)

pub vertex_spend-bounds-edges-i : goal.vertex_spend-bounds-edges-i
vertex_spend-bounds-edges-i t c = (grounded _ _ _ _ _ c.requires.0).vertex

pub vertex_spend-tail_of-tail-requires : goal.vertex_spend-tail_of-tail-requires
vertex_spend-tail_of-tail-requires t c = (grounded _ _ _ _ _ c.requires.0).placed

pub vertex_spend-overflow_sub-depth : goal.vertex_spend-overflow_sub-depth
vertex_spend-overflow_sub-depth t c = (grounded _ _ _ _ _ c.requires.0).deep

pub vertex_spend-tail_spend-requires : goal.vertex_spend-tail_spend-requires
vertex_spend-tail_spend-requires t c =
    let a = c.args in
    let g = grounded _ _ _ _ _ c.requires.0 in (
      omega (arith, c.decreases, g.deep),
      (subst (AllGrounded a.spans.now a.tails.now a.edges.now (a.depth - 1)) (sym c.tail_of-tail.ensures) g.below, c.requires.1),
    )

pub vertex_spend-returns-in_err-rest-clause-value : goal.vertex_spend-returns-in_err-rest-clause-value
vertex_spend-returns-in_err-rest-clause-value t c =
    let none : c.from_residual.result ≡ None = search rules in
    none ∙ vertex_paid _ _ _ _ _ c.requires.0 c.if-budget-eq0.false c.tail_of-tail.ensures c.in_err-rest.ensures.value

pub vertex_spend-offset_bounds-lengths-i-2 : goal.vertex_spend-offset_bounds-lengths-i-2
vertex_spend-offset_bounds-lengths-i-2 t c = omega (arith, vertex_known _ _ c.requires.0 c.tail_spend.ensures.known.known)

pub vertex_spend-bounds-lengths-i-2 : goal.vertex_spend-bounds-lengths-i-2
vertex_spend-bounds-lengths-i-2 t c = vertex_known _ _ c.requires.0 c.tail_spend.ensures.known.known

pub vertex_spend-returns-clause-value : goal.vertex_spend-returns-clause-value
vertex_spend-returns-clause-value t c = vertex_paid _ _ _ _ _ c.requires.0 c.if-budget-eq0.false c.tail_of-tail.ensures c.in_ok-rest.ensures.value

pub vertex_spend-returns-clause-known : goal.vertex_spend-returns-clause-known
vertex_spend-returns-clause-known t c = vertex_stored _ _ _ _ _ c.requires.0 c.if-budget-eq0.false c.tail_of-tail.ensures c.in_ok-rest.ensures.value c.tail_spend.ensures.known
