use mathlib.Core.Path.{◌≡◌, sym, ◌∙◌, ap}
use Prim.Native.Nat.{ℕ, ◌+◌}
use native.Mathlib.Omega.{arith}
use lib.ListN.{length}
use Rattle.uses.specs.Uses.{distinct_in}
use Rattle.uses.proofs.Hits.{distinct_none, distinct_again, distinct_new}
use Rattle.uses.proofs.distinct.Goals as goal
use Rattle.uses.proofs.distinct.Goals.{then-not-stands_in, else-not-stands_in}

pub loop-i-init : goal.loop-i-init
loop-i-init c = (omega arith, sym (distinct_none _))

pub loop-i-preserved : goal.loop-i-preserved
loop-i-preserved c =
    let told = c.stands_in.ensures in
    elim c.if-not-stands_in.branch [
      | then-not-stands_in w ↦
          let d = distinct_new c.args.list.now c.loop-i.i (sym told ∙ w.if-not-stands_in.true) in
          (omega (arith, w.k-is, c.loop-i.invariant.0), w.k-is ∙ ap (λ (k : ℕ). k + 1) c.loop-i.invariant.1 ∙ sym d)
      | else-not-stands_in w ↦
          let d = distinct_again c.args.list.now c.loop-i.i (sym told ∙ w.if-not-stands_in.false) in
          (omega (arith, w.k-is, c.loop-i.invariant.0), w.k-is ∙ c.loop-i.invariant.1 ∙ sym d)
    ]

pub returns : goal.returns
returns c =
    let l = c.loop-i in
    let e : l.i ≡ length c.args.list.now = omega (arith, l.auto.i-end) in
    l.invariant.1 ∙ ap (distinct_in c.args.list.now) e
