-- The counts of the paper's table ("A table priced whole"): line 4 lists part 1 twice, and it counts twice; part 4 is unmade. And counts about the cap.
-- Assumes nothing.
use mathlib.Core.Path.{◌≡◌, refl}
use mathlib.Core.List.{List, [], ◌∷◌}
use Prim.Native.Nat.{ℕ}
use Rattle.provenance.specs.Support.{bill, bills}
use Rattle.provenance.specs.Counting.{total}
use Rattle.provenance.specs.Pieces.{piece, pieces_at, below, piece_count}
use Rattle.pieces.specs.Counting.{counted}

abbrev spans : List ℕ
spans = 0 ∷ 0 ∷ 0 ∷ 0 ∷ 0 ∷ 2 ∷ 2 ∷ 0 ∷ 2 ∷ 3 ∷ 5 ∷ 1 ∷ []

abbrev tails : List ℕ
tails = 0 ∷ 1 ∷ 2 ∷ 1 ∷ 1 ∷ 4 ∷ []

pub counts_of_the_paper : counted spans tails (1 ∷ 1 ∷ 2 ∷ 3 ∷ 0 ∷ []) (0 ∷ 1 ∷ 2 ∷ 4 ∷ 0 ∷ []) ≡ 1 ∷ 1 ∷ 2 ∷ 4 ∷ 0 ∷ []
unfolding counted below pieces_at piece total bill bills
counts_of_the_paper = refl

pub below_the_cap : piece_count (λ v. 333_333_333) (0 ∷ 1 ∷ 2 ∷ []) ≡ 999_999_999
unfolding piece_count total
below_the_cap = refl

pub at_the_cap : piece_count (λ v. 500_000_000) (0 ∷ 0 ∷ []) ≡ 1_000_000_000
unfolding piece_count total
at_the_cap = refl

pub above_the_cap : piece_count (λ v. 1_000_000_000) (0 ∷ 1 ∷ []) ≡ 1_000_000_000
unfolding piece_count total
above_the_cap = refl
