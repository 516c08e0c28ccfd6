use mathlib.Core.Path.{◌≡◌, sym, subst}
use Prim.Native.Nat.{ℕ, ◌+◌, max}
use native.Mathlib.Omega.{arith}
use lib.ListN.{length}
use Rattle.weights.specs.Measures.{algebra}
use Rattle.columns.specs.Columns.{cell}
use Rattle.offers.specs.Passing.{Carried}
use Rattle.offers.proofs.Passing.{carried_more}
use Rattle.waiting.proofs.go_on.Goals as goal

pub returns-then-depth-eq0 : goal.returns-then-depth-eq0
returns-then-depth-eq0 c = record { passed = c.loop-at.invariant; stopped = λ h. c.if-depth-eq0.true }

pub loop-at-preserved : goal.loop-at-preserved
loop-at-preserved c =
    let A = algebra c.args.measure in
    let w = cell c.args.weights.now in
    let d = cell c.args.depths.now in
    let tail = c.args.tail.now in
    let i = c.loop-at.at in
    subst (λ (g : ℕ). Carried A w d tail (i + 1) c.joining-sum.result g) (sym c.deeper-deepest.ensures)
    (subst (λ (j : ℕ). Carried A w d tail (i + 1) j (max c.loop-at.deepest (d (cell tail i)))) (sym c.joining-sum.ensures)
    (carried_more c.args.measure w d tail i c.loop-at.joined.0 c.loop-at.deepest c.loop-at.invariant c.loop-at-test.true
    c.if-depth-eq0.false (c.requires.0.legible.shallow (cell tail i)) (c.requires.0.light (cell tail i))))

pub returns : goal.returns
returns c =
    let at-end : c.loop-at.at ≡ length c.args.tail.now = omega (arith, c.loop-at.invariant.inside, c.loop-at-test.false) in
    record { passed = rw (← at-end) c.loop-at.invariant; stopped = λ h. absurd (omega (arith, h)) }
