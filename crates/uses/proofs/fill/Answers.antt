use mathlib.Core.Path.{◌≡◌, ap, subst}
use Prim.Native.Nat.{ℕ, ◌/◌}
use native.Mathlib.Omega.{arith}
use Rattle.columns.specs.Columns.{tail_of}
use Rattle.uses.specs.Uses.{pairs_in}
use Rattle.uses.specs.Indexable.{FilledTo}
use Rattle.uses.proofs.Filling.{fill_none, filling, fill_more}
use Rattle.uses.proofs.fill.Goals as goal

pub loop-e-init : goal.loop-e-init
loop-e-init c = fill_none _ _ _ _ _ c.requires.offsets

pub fill_edge-requires : goal.fill_edge-requires
fill_edge-requires c = filling c.requires.readable c.loop-e-test.true (ap (λ (z : ℕ). z / 2) c.loop-e.auto.index) c.requires.room c.loop-e.invariant

pub loop-e-preserved : goal.loop-e-preserved
loop-e-preserved c = fill_more _ _ _ _ c.loop-e.e (ap (λ (z : ℕ). z / 2) c.loop-e.auto.index) c.loop-e.invariant c.fill_edge.ensures

pub returns : goal.returns
returns c =
    let s = c.args in
    let e : c.loop-e.e ≡ pairs_in s.spans.now = omega (arith, c.loop-e.auto.e-end) in
    subst (λ (z : ℕ). FilledTo (tail_of s.spans.now s.tails.now) (pairs_in s.spans.now) (pairs_in s.index.now) z c.loop-e.index c.loop-e.list s.list.now) e c.loop-e.invariant
