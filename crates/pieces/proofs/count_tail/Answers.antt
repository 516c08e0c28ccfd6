use mathlib.Core.Path.{sym, ◌∙◌, ap}
use Prim.Native.Nat.{ℕ, ◌+◌, min}
use native.Mathlib.Omega.{arith}
use borrow.Author.Tests.{eqb-true, eqb-false}
use Rattle.provenance.specs.Pieces.{most_pieces}
use Rattle.columns.specs.Columns.{cell}
use Rattle.pieces.proofs.Sums.{sum_none, sum_most, sum_more, sum-all, count_none}
use Rattle.pieces.proofs.count_tail.Goals as goal

pub returns-then-is_empty : goal.returns-then-is_empty
returns-then-is_empty c = count_none _ _ (eqb-true _ _ (sym c.is_empty.ensures ∙ c.if-is_empty.true))

pub loop-part-init : goal.loop-part-init
loop-part-init c = sum_none _ _

-- a vertex of the tail has its place
pub bounds-pieces-v : goal.bounds-pieces-v
bounds-pieces-v c = c.requires.each c.loop-part.part-index c.loop-part-test.true

-- so far at most as many times the greatest count as there are vertices passed, of 16
pub overflow_add-sum : goal.overflow_add-sum
overflow_add-sum c =
    let a = c.args in
    let i = c.loop-part.part-index in
    omega (arith, c.requires.low (cell a.tail.now i), sum_most (cell a.pieces.now) a.tail.now c.requires.low i c.loop-part.auto.part-index-end)

pub loop-part-preserved : goal.loop-part-preserved
loop-part-preserved c =
    let a = c.args in
    let i = c.loop-part.part-index in
    let p = cell a.pieces.now in
    ap (λ (s : ℕ). s + p (cell a.tail.now i)) c.loop-part.invariant ∙ sum_more p a.tail.now i c.loop-part-test.true

pub returns : goal.returns
returns c =
    let a = c.args in
    c.min.ensures ∙ ap (λ (z : ℕ). min z most_pieces) c.loop-part.invariant
    ∙ sum-all (cell a.pieces.now) a.tail.now c.loop-part.part-index (eqb-false _ _ (sym c.is_empty.ensures ∙ c.if-is_empty.false)) c.loop-part-test.false
