-- The sums and products of a sample within the limits fit the machine's numbers. Assumes nothing.
use Prim.Native.Nat.{ℕ, zero, suc, ◌*◌, ◌≤◌, ◌<◌}
use mathlib.Core.List.{List}
use native.Mathlib.Nat.{mul-le-mul}
use native.Mathlib.Omega.{arith}
use lib.ListN.{length}
use Rattle.statistics.specs.Samples.{sum, squares, Sample}
use Rattle.statistics.proofs.Spread.{spread_exact}
use Rattle.statistics.proofs.Totals.{total_at_most}

-- of n results with the sum t and the sum of squares q
pub record Ranges (n t q : ℕ) : Type 0 where
  pub some : 0 < n * n
  pub count : n * n ≤ 1_000_000
  pub total : t ≤ 1_000_000_000
  pub squares : q ≤ 1_000_000_000_000_000
  pub product : n * q ≤ 1_000_000_000_000_000_000
  pub exact : t * t ≤ n * q

pub square_above : (n : ℕ) → 1 ≤ n → 0 < n * n
square_above zero h = absurd (omega arith)
square_above (suc n) h = omega arith

pub ranges : {xs : List ℕ} → Sample xs → Ranges (length xs) (sum xs) (squares xs)
ranges {xs} s =
    let t : sum xs ≤ length xs * 1_000_000 = total_at_most (λ x. x) _ xs s.small in
    let q : squares xs ≤ length xs * 1_000_000_000_000 = total_at_most (λ x. x * x) _ xs (λ i h. mul-le-mul (s.small i h) (s.small i h)) in
    let few = s.few in
    let most : squares xs ≤ 1_000_000_000_000_000 = omega arith in
    record {
      some = square_above (length xs) s.some;
      count = mul-le-mul few few;
      total = omega arith;
      squares = most;
      product = mul-le-mul few most;
      exact = spread_exact xs;
    }
