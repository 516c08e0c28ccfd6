use mathlib.Core.Path.{◌≡◌, refl, ◌∙◌, ap}
use Prim.Native.Nat.{ℕ, ◌+◌}
use native.Mathlib.Omega.{arith}
use Rattle.uses.specs.Uses.{pairs_in}
use Rattle.uses.specs.Indexable.{running}
use Rattle.uses.proofs.Placing.{placed_to, place_none, place_all, running_mono, running_next, place_count, place_more}
use Rattle.uses.proofs.place.Goals as goal

pub loop-v-init : goal.loop-v-init
unfolding running
loop-v-init c = (refl, place_none _ _ c.requires.even)

pub overflow_add-sum : goal.overflow_add-sum
overflow_add-sum c =
    let ix = c.args.index.now in
    omega (
      arith,
      c.requires.fits,
      running_mono ix (c.loop-v.v + 1) (pairs_in ix) (omega arith),
      running_next ix c.loop-v.v,
      place_count ix c.loop-v.v (pairs_in ix) c.loop-v-test.true c.loop-v.invariant.1,
    )

pub loop-v-preserved : goal.loop-v-preserved
loop-v-preserved c =
    let ix = c.args.index.now in (
      omega (arith, running_next ix c.loop-v.v, place_count ix c.loop-v.v (pairs_in ix) c.loop-v-test.true c.loop-v.invariant.1),
      place_more ix c.loop-v.v (pairs_in ix) c.loop-v-test.true c.loop-v.invariant.1 c.loop-v.sum c.loop-v.invariant.0,
    )

pub returns : goal.returns
returns c =
    let ix = c.args.index.now in
    let e : c.loop-v.v ≡ pairs_in ix = omega (arith, c.loop-v.auto.v-end) in
    (c.loop-v.invariant.0 ∙ ap (running ix) e, c.loop-v.invariant.1 ∙ ap (λ (z : ℕ). placed_to ix z (pairs_in ix)) e ∙ place_all ix (pairs_in ix))
