use mathlib.Core.Path.{◌≡◌, subst}
use Prim.Native.Nat.{ℕ}
use native.Mathlib.Omega.{arith}
use lib.ListN.{length}
use Rattle.pieces.specs.Counting.{Linked, Deepest}
use Rattle.pieces.proofs.Links.{linked_none, linked_more, deepest_none, deepest_more}
use Rattle.pieces.proofs.link.Goals as goal

pub loop-i-init : goal.loop-i-init
loop-i-init c = (linked_none c.requires, deepest_none c.requires.some)

pub loop-i-preserved : goal.loop-i-preserved
loop-i-preserved c =
    -- a depth has its place among the last vertices
    let s = c.requires.shallow c.loop-i.i c.loop-i-test.true in
    (linked_more c.loop-i.invariant.0 c.loop-i-test.true s, deepest_more c.loop-i.invariant.1 s c.max-deepest.ensures)

pub returns-clause-linked : goal.returns-clause-linked
returns-clause-linked c =
    let a = c.args in
    let e : c.loop-i.i ≡ length a.depths.now = omega (arith, c.loop-i.auto.i-end) in
    subst (λ (z : ℕ). Linked a.depths.now (length a.last.now) z c.loop-i.last c.loop-i.pieces) e c.loop-i.invariant.0

pub returns-clause-deepest : goal.returns-clause-deepest
returns-clause-deepest c =
    let a = c.args in
    let e : c.loop-i.i ≡ length a.depths.now = omega (arith, c.loop-i.auto.i-end) in
    subst (λ (z : ℕ). Deepest a.depths.now (length a.last.now) z c.loop-i.deepest) e c.loop-i.invariant.1
