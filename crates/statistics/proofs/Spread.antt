-- The square of the sum is at most the count times the sum of squares, so their difference is a true one. Assumes nothing.
use Prim.Native.Nat.{ℕ, ◌+◌, ◌*◌, ◌-◌, ◌≤◌}
use mathlib.Core.Path.{◌≡◌}
use mathlib.Core.List.{List, [], ◌∷◌}
use native.Mathlib.Decide.{dec_le}
use native.Mathlib.Omega.{arith}
use lib.ListN.{length}
use Rattle.statistics.specs.Samples.{total, sum, squares}

-- twice a product is at most the two squares
apart : (x y d : ℕ) → x + d ≡ y → 2 * (x * y) ≤ x * x + y * y
apart x y d e = rw (← e) (omega arith)

product_squares : (x y : ℕ) → 2 * (x * y) ≤ x * x + y * y
product_squares x y = go (dec_le x y)
  where
    go : Dec (x ≤ y) → 2 * (x * y) ≤ x * x + y * y
    go (yes h) = apart x y (y - x) (omega arith)
    go (no n) = omega (arith, apart y x (x - y) (omega arith))

-- the same of x and each result
crossed : (x : ℕ) (xs : List ℕ) → 2 * (x * sum xs) ≤ length xs * (x * x) + squares xs
unfolding total
crossed x [] = omega arith
crossed x (y ∷ ys) = omega (arith, crossed x ys, product_squares x y)

pub spread_exact : (xs : List ℕ) → sum xs * sum xs ≤ length xs * squares xs
unfolding total
spread_exact [] = omega arith
spread_exact (x ∷ xs) = omega (arith, spread_exact xs, crossed x xs)
