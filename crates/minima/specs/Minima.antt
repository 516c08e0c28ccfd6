-- A tree of least keys, four to a place: with room for so many keys, a power of 4, key v stands in the second half, and each place of the first quarter, from 1 on, has
-- the least of the four places under it, so place 1 the least of all; place 0 and the second quarter are not used. And what
-- its two changes do: a key is lowered, a key is taken out. Numbers alone: what a key stands for is said elsewhere. Assumes nothing: these are definitions.
use Rattle.std.specs.Prelude.{ℕ, zero, suc, ◌+◌, ◌*◌, ◌/◌, ◌≤◌, ◌<◌, min, ◌≡◌, List, length, get_or, set}

-- in place of a key that is not there: above every other
abbrev pub none : ℕ
none = 18_446_744_073_709_551_615

-- 4, 16, 64, …
pub data PowerOfFour : ℕ → Type 0 where
  four : PowerOfFour 4
  times : {k : ℕ} → PowerOfFour k → PowerOfFour (4 * k)

-- how many keys a tree has room for, and key v
abbrev pub leaves : List ℕ → ℕ
leaves q = length q / 2

abbrev pub key_in : List ℕ → ℕ → ℕ
key_in q v = get_or q (leaves q + v) 0

-- the least of k places from a place on
unfoldable pub least_from : List ℕ → (at k : ℕ) → ℕ
least_from q at zero = none
least_from q at (suc k) = min (least_from q at k) (get_or q (at + k) 0)

-- the least key
abbrev pub least_key : List ℕ → ℕ
least_key q = least_from q (leaves q) (leaves q)

-- the least of the four places under place i
abbrev pub least_under : List ℕ → ℕ → ℕ
least_under q i = min (min (get_or q (4 * i) 0) (get_or q (4 * i + 1) 0)) (min (get_or q (4 * i + 2) 0) (get_or q (4 * i + 3) 0))

-- each place has the least of those under it
pub record Grouped (q : List ℕ) : Type 0 where
  pub power : PowerOfFour (leaves q)
  pub sized : length q ≡ 2 * leaves q
  pub low : (i : ℕ) → get_or q i 0 ≤ none
  pub least : (i : ℕ) → 0 < i → 2 * i < leaves q → get_or q i 0 ≡ least_under q i

-- a place holds x, or less where it held less
abbrev pub lower_at : List ℕ → (i x : ℕ) → List ℕ
lower_at q i x = set q i (min (get_or q i 0) x)

-- the same of place i and of those above it, i / 4 and so on, in at most so many steps
unfoldable pub lower_up : (steps : ℕ) → List ℕ → (i x : ℕ) → List ℕ
lower_up zero q i x = q
lower_up (suc k) q zero x = q
lower_up (suc k) q (suc i) x = lower_up k (lower_at q (suc i) x) (suc i / 4) x

-- key v is lowered to x, and with it the places above it
unfoldable pub lowered : List ℕ → (v x : ℕ) → List ℕ
lowered q v x = lower_up (length q) q (leaves q + v) x

-- place i gets the least of those under it
abbrev pub again : List ℕ → ℕ → List ℕ
again q i = set q i (least_under q i)

-- the same of place i and of those above it
unfoldable pub again_up : (steps : ℕ) → List ℕ → ℕ → List ℕ
again_up zero q i = q
again_up (suc k) q zero = q
again_up (suc k) q (suc i) = again_up k (again q (suc i)) (suc i / 4)

-- key v is taken out, and the places above it are found again
unfoldable pub raised : List ℕ → ℕ → List ℕ
raised q v = again_up (length q) (set q (leaves q + v) none) ((leaves q + v) / 4)
