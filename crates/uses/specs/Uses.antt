-- The index of uses: for each vertex the hyperedges that list it, ascending and each once, struck ones too, in one list; and a column of pairs that says where the
-- uses of a vertex stand there: the offset, then the length. Assumes nothing: these are definitions.
use Rattle.std.specs.Prelude.{List, [], ◌∷◌, ◌++◌, ℕ, zero, suc, ◌+◌, ◌/◌, length, get_or, take}
use Rattle.weights.specs.Choice.{pick}
use Rattle.weights.specs.Lists.{member}
use Rattle.columns.specs.Filled.{filled}

-- of the hyperedges below k those that list v
unfoldable pub uses_below : (tail : ℕ → List ℕ) → (v k : ℕ) → List ℕ
uses_below tail v zero = []
uses_below tail v (suc k) = pick (member v (tail k)) (uses_below tail v k ++ k ∷ []) (uses_below tail v k)

-- of m hyperedges the uses of the vertices below n, one vertex after the other
unfoldable pub use_list : (tail : ℕ → List ℕ) → (m n : ℕ) → List ℕ
use_list tail m zero = []
use_list tail m (suc n) = use_list tail m n ++ uses_below tail n m

-- a column of two places for each vertex
unfoldable pub pairs : (first second : ℕ → ℕ) → ℕ → List ℕ
pairs f g zero = []
pairs f g (suc n) = pairs f g n ++ f n ∷ g n ∷ []

-- how many pairs a column of pairs holds
abbrev pub pairs_in : List ℕ → ℕ
pairs_in xs = length xs / 2

-- where the uses of v start in the list, and how many there are
abbrev pub use_offset : (tail : ℕ → List ℕ) → (m v : ℕ) → ℕ
use_offset tail m v = length (use_list tail m v)

abbrev pub use_count : (tail : ℕ → List ℕ) → (m v : ℕ) → ℕ
use_count tail m v = length (uses_below tail v m)

abbrev pub use_pairs : (tail : ℕ → List ℕ) → (m n : ℕ) → List ℕ
use_pairs tail m n = pairs (use_offset tail m) (use_count tail m) n

-- what indexing returns and leaves: the length of the list, the pairs, and the list at the start of a lent column
pub record Index : Type 0 where
  pub total : ℕ
  pub index : List ℕ
  pub list : List ℕ

unfoldable pub indexed : (tail : ℕ → List ℕ) → (m n : ℕ) → (old : List ℕ) → Index
indexed tail m n old = record { total = length (use_list tail m n); index = use_pairs tail m n; list = filled (use_list tail m n) old }

-- how many different numbers stand in the first i places of a list
unfoldable pub distinct_in : List ℕ → ℕ → ℕ
distinct_in vs zero = 0
distinct_in vs (suc i) = distinct_in vs i + pick (member (get_or vs i 0) (take i vs)) 0 1
