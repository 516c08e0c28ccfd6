use mathlib.Core.Path.{◌≡◌, sym, ◌∙◌, ap, subst}
use mathlib.Core.List.{List}
use Prim.Native.Nat.{ℕ, ◌+◌, ◌*◌, ◌/◌}
use native.Mathlib.Omega.{arith}
use lib.ListN.{length, replicate, length-replicate}
use Rattle.columns.specs.Columns.{tail_of}
use Rattle.uses.specs.Uses.{pairs_in}
use Rattle.uses.specs.Indexable.{Readable, counted}
use Rattle.uses.proofs.Counting.{count_none, counting}
use Rattle.uses.proofs.count.Goals as goal

-- the cleared index keeps its length
pairs-still : (k : ℕ) (cleared : List ℕ) → cleared ≡ replicate k 0 → pairs_in cleared ≡ k / 2
pairs-still k cleared p = ap (λ (z : ℕ). z / 2) (ap length p ∙ length-replicate _ _)

pub loop-e-init : goal.loop-e-init
loop-e-init c = c.set_all.ensures ∙ count_none _ _ _ (c.requires.1 ∙ ap (λ (z : ℕ). 2 * z) (sym (pairs-still _ _ c.set_all.ensures)))

pub count_edge-requires : goal.count_edge-requires
count_edge-requires c =
    let s = c.args in
    let readable = subst (λ (z : ℕ). Readable z s.spans.now s.tails.now) (sym (pairs-still _ _ c.set_all.ensures)) c.requires.0 in
    counting readable c.loop-e-test.true (ap (λ (z : ℕ). z / 2) c.loop-e.auto.index) c.loop-e.invariant

pub loop-e-preserved : goal.loop-e-preserved
loop-e-preserved c =
    let s = c.args in
    c.count_edge.ensures ∙ ap (counted (tail_of s.spans.now s.tails.now) (c.loop-e.e + 1)) (ap (λ (z : ℕ). z / 2) c.loop-e.auto.index)

pub returns : goal.returns
returns c =
    let s = c.args in
    let e : c.loop-e.e ≡ pairs_in s.spans.now = omega (arith, c.loop-e.auto.e-end) in
    c.loop-e.invariant
    ∙ ap (λ (z : ℕ). counted (tail_of s.spans.now s.tails.now) z (pairs_in c.set_all.new.column)) e
    ∙ ap (counted (tail_of s.spans.now s.tails.now) (pairs_in s.spans.now)) (pairs-still _ _ c.set_all.ensures)
