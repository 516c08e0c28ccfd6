-- What indexing asks of the lent columns, and what its passes leave in them, hyperedge by hyperedge. Assumes nothing: these are definitions.
use Rattle.std.specs.Prelude.{◌≡◌, Bool, true, false, List, ℕ, zero, suc, ◌+◌, ◌*◌, ◌-◌, ◌≤◌, ◌<◌, length, get_or, eqb}
use Rattle.weights.specs.Lists.{member}
use Rattle.weights.specs.Choice.{pick}
use Rattle.columns.specs.Columns.{tail_of}
use Rattle.columns.specs.Acceptance.{all_below}
use Rattle.uses.specs.Uses.{uses_below, use_list, pairs, pairs_in, use_offset}

-- the tail of hyperedge e stands in the column, and its vertices are below n
pub record TailReadable (n : ℕ) (spans tails : List ℕ) (e : ℕ) : Type 0 where
  pub within : get_or spans (2 * e) 0 + get_or spans (2 * e + 1) 0 ≤ length tails
  pub listed : all_below n (tail_of spans tails e) ≡ true

pub record Readable (n : ℕ) (spans tails : List ℕ) : Type 0 where
  pub even : length spans ≡ 2 * pairs_in spans
  pub each : (e : ℕ) → e < pairs_in spans → TailReadable n spans tails e

-- a table whose tails can be read, two places for each vertex, and a number of uses that does not wrap
pub record Measurable (spans tails index : List ℕ) : Type 0 where
  pub readable : Readable (pairs_in index) spans tails
  pub even : length index ≡ 2 * pairs_in index
  pub fits : length (use_list (tail_of spans tails) (pairs_in spans) (pairs_in index)) ≤ 18446744073709551615

-- the same with room for every use
pub record Indexable (spans tails index list : List ℕ) : Type 0 where
  pub readable : Readable (pairs_in index) spans tails
  pub even : length index ≡ 2 * pairs_in index
  pub room : length (use_list (tail_of spans tails) (pairs_in spans) (pairs_in index)) ≤ length list

-- the last hyperedge below k that lists v, and 1 more; 0 where there is none
unfoldable pub mark_below : (tail : ℕ → List ℕ) → (v k : ℕ) → ℕ
mark_below tail v zero = 0
mark_below tail v (suc k) = pick (member v (tail k)) (k + 1) (mark_below tail v k)

-- while counting: the mark of each vertex, and how many of the hyperedges below e list it
abbrev pub counted : (tail : ℕ → List ℕ) → (e n : ℕ) → List ℕ
counted tail e n = pairs (λ v. mark_below tail v e) (λ v. length (uses_below tail v e)) n

pub record Counting (e : ℕ) (spans tails index : List ℕ) : Type 0 where
  pub readable : Readable (pairs_in index) spans tails
  pub numbered : e < pairs_in spans
  pub counts : index ≡ counted (tail_of spans tails) e (pairs_in index)

-- the sum of the counts of the vertices below v
unfoldable pub running : (index : List ℕ) → ℕ → ℕ
running index zero = 0
running index (suc v) = running index v + get_or index (2 * v + 1) 0

pub record Placeable (index : List ℕ) : Type 0 where
  pub even : length index ≡ 2 * pairs_in index
  pub fits : running index (pairs_in index) ≤ 18446744073709551615

-- where the uses of each vertex start, and none of them
abbrev pub placed : (index : List ℕ) → ℕ → List ℕ
placed index n = pairs (running index) (λ v. 0) n

-- e is the last of the k from a place on
unfoldable pub ends_in : (list : List ℕ) → (from k e : ℕ) → Bool
ends_in list from k e = pick (eqb k 0) false (eqb (get_or list (from + k - 1) 0) e)

-- a list holds some uses of each vertex from its offset on, and what `old` held in every other place
pub record Laid (offset : ℕ → ℕ) (uses : ℕ → List ℕ) (n : ℕ) (list old : List ℕ) : Type 0 where
  pub level : length list ≡ length old
  pub holds : (v j : ℕ) → v < n → j < length (uses v) → get_or list (offset v + j) 0 ≡ get_or (uses v) j 0
  pub keeps : (p : ℕ) → ((v j : ℕ) → v < n → j < length (uses v) → p ≡ offset v + j → ⊥) → get_or list p 0 ≡ get_or old p 0

-- while filling: the uses below e of each vertex stand in the list, and their lengths in the index
pub record FilledTo (tail : ℕ → List ℕ) (m n e : ℕ) (index list old : List ℕ) : Type 0 where
  pub lengths : index ≡ pairs (use_offset tail m) (λ v. length (uses_below tail v e)) n
  pub laid : Laid (use_offset tail m) (λ v. uses_below tail v e) n list old

pub record Filling (e : ℕ) (spans tails index list : List ℕ) : Type 0 where
  pub readable : Readable (pairs_in index) spans tails
  pub numbered : e < pairs_in spans
  pub room : length (use_list (tail_of spans tails) (pairs_in spans) (pairs_in index)) ≤ length list
  pub so_far : FilledTo (tail_of spans tails) (pairs_in spans) (pairs_in index) e index list list

-- before filling: the offsets stand
pub record Offset (spans tails index list : List ℕ) : Type 0 where
  pub readable : Readable (pairs_in index) spans tails
  pub room : length (use_list (tail_of spans tails) (pairs_in spans) (pairs_in index)) ≤ length list
  pub offsets : index ≡ pairs (use_offset (tail_of spans tails) (pairs_in spans)) (λ v. 0) (pairs_in index)
