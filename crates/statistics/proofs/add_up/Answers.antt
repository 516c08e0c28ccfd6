use mathlib.Core.Path.{◌≡◌, ap₂}
use Prim.Native.Nat.{ℕ, ◌*◌}
use native.Mathlib.Omega.{arith}
use Rattle.statistics.specs.Samples.{sum, squares}
use Rattle.statistics.proofs.Totals.{total_next, total_end}
use Rattle.statistics.proofs.Ranges.{ranges}
use Rattle.statistics.proofs.add_up.Goals as goal

-- a sum from result i on is result i's part and the sum from the next on: `total_next`
pub overflow_add-total : goal.overflow_add-total
overflow_add-total c = let r = ranges c.requires in omega (arith, total_next (λ x. x) _ _ c.loop-x-test.true)

pub overflow_add-squares : goal.overflow_add-squares
overflow_add-squares c = let r = ranges c.requires in omega (arith, total_next (λ x. x * x) _ _ c.loop-x-test.true)

pub loop-x-preserved : goal.loop-x-preserved
loop-x-preserved c = (omega (arith, total_next (λ x. x) _ _ c.loop-x-test.true), omega (arith, total_next (λ x. x * x) _ _ c.loop-x-test.true))

pub returns : goal.returns
returns c =
    let xs = c.args.results.now in
    let s : c.loop-x.total ≡ sum xs = omega (arith, total_end (λ x. x) _ _ c.loop-x-test.false) in
    let q : c.loop-x.squares ≡ squares xs = omega (arith, total_end (λ x. x * x) _ _ c.loop-x-test.false) in
    ap₂ (λ (x y : ℕ). record { total = x; squares = y }) s q
