-- How often a line stands in a bill, and what a bill costs: the sum over all lines of figure × count. These are plain numbers with no ceiling. Assumes nothing: these are definitions.
use Rattle.std.specs.Prelude.{◌≡◌, ◌≢◌, List, [], ◌∷◌, ℕ, zero, suc, ◌+◌, ◌*◌, eqb, ℤ, pos, ◌+ℤ◌, ◌*ℤ◌}
use Rattle.std.proofs.Math.IntN.{sub_ℕ}
use Rattle.weights.specs.Choice.{pick}

-- 1 where x is e, else 0
abbrev pub once : ℕ → ℕ → ℕ
once e x = pick (eqb x e) 1 0

-- how often e stands in a list
unfoldable pub count : ℕ → List ℕ → ℕ
count e [] = 0
count e (x ∷ xs) = once e x + count e xs

-- f summed over the numbers below n
unfoldable pub sum_below : (ℕ → ℕ) → ℕ → ℕ
sum_below f zero = 0
sum_below f (suc n) = sum_below f n + f n

-- what the lines of a bill cost, of n lines in all: the sum of figure × count
unfoldable pub charge : (own : ℕ → ℕ) (n : ℕ) → List ℕ → ℕ
charge own n es = sum_below (λ e. own e * count e es) n

-- the same along the bill
unfoldable pub total : (ℕ → ℕ) → List ℕ → ℕ
total own [] = 0
total own (e ∷ es) = own e + total own es

-- own' is own with d more at e
pub record Raised (own own' : ℕ → ℕ) (e d : ℕ) : Type 0 where
  pub here : own' e ≡ own e + d
  pub elsewhere : (x : ℕ) → x ≢ e → own' x ≡ own x

-- by how much the own figure of a line changes, new less old: an integer, negative where it falls
abbrev pub change_of : (own own' : ℕ → ℕ) (e : ℕ) → ℤ
change_of own own' e = sub_ℕ (own' e) (own e)

-- f summed over the numbers below n, as integers
unfoldable pub sum_ℤ : (ℕ → ℤ) → ℕ → ℤ
sum_ℤ f zero = pos zero
sum_ℤ f (suc n) = sum_ℤ f n +ℤ f n

-- document 02, 2026-11: "the sum, over all lines, of the line's change times its count" in a bill, of n lines in all
unfoldable pub bill_change : (own own' : ℕ → ℕ) (n : ℕ) → List ℕ → ℤ
bill_change own own' n es = sum_ℤ (λ e. change_of own own' e *ℤ pos (count e es)) n
