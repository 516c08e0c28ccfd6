use mathlib.Core.Path.{refl, ◌∙◌, ap}
use Prim.Native.Nat.{ℕ, ◌+◌}
use native.Mathlib.Omega.{arith}
use Rattle.columns.proofs.Laws.{below_from, below_end}
use Rattle.queue.specs.Keys.{heavy}
use Rattle.offers.proofs.Passing.{share_more}
use Rattle.offers.proofs.all_light.Goals as goal

pub loop-weight-init : goal.loop-weight-init
unfolding below_from
loop-weight-init c = (omega arith, refl)

pub loop-weight-preserved : goal.loop-weight-preserved
loop-weight-preserved c =
    let xs = c.args.weights.now in
    let i = c.loop-weight.weight-index in (
      omega (arith, c.share-shares.ensures.1, c.loop-weight.invariant.0),
      ap (λ (z : ℕ). below_from heavy xs (c.loop-weight.shares + z) (i + 1)) c.share-shares.ensures.0 ∙ share_more xs c.loop-weight.shares i c.loop-weight-test.true ∙ c.loop-weight.invariant.1,
    )

pub returns : goal.returns
returns c = below_end _ _ _ _ c.loop-weight-test.false ∙ c.loop-weight.invariant.1
