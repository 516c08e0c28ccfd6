-- The index of a table, and indexing a table: refusals, and what is returned and left. Document 02, 2026-01: "Keep beside the table an index: for each part a pair of
-- offset and length, sorted by offset, from 0 and without gaps, into a list of the lines that need the part"; "18 if a column … has no room"; "19 if the lent index
-- isn't this table's". Assumes nothing: these are definitions.
use Rattle.std.specs.Prelude.{Bool, false, List, ℕ, ◌+◌, ◌*◌, length, take, leb, Ok, Err}
use Rattle.weights.specs.Choice.{pick}
use Rattle.refusal.specs.declared.Refusal.TheVariants.{ColumnRoom, WrongIndex}
use Rattle.columns.specs.Columns.{Columns, tail_at}
use Rattle.columns.specs.Acceptance.{test, and_then, acceptance}
use Rattle.columns.specs.Filled.{filled}
use Rattle.columns.specs.Same.{equal}
use Rattle.uses.specs.Uses.{use_list, use_pairs}
use Rattle.refusal.specs.Answers.{Acceptance, Extent}

-- a pair of offset and length for each part, and the list
pub record TableIndex : Type 0 where
  pub pairs : List ℕ
  pub list : List ℕ

-- of m lines by the parts that they list, and n parts
abbrev pub index_by : (tail : ℕ → List ℕ) → (m n : ℕ) → TableIndex
index_by tail m n = record { pairs = use_pairs tail m n; list = use_list tail m n }

abbrev pub index_of : Columns → TableIndex
index_of c = index_by (tail_at c) (length c.heads) c.vertices

-- two columns begin with an index of n parts; what stands behind it is not looked at
unfoldable pub begin_with : (n : ℕ) → TableIndex → (index list : List ℕ) → Bool
begin_with n x index list = pick (equal (take (2 * n) index) x.pairs) (equal (take (length x.list) list) x.list) false

abbrev pub is_index : Columns → (index list : List ℕ) → Bool
is_index c = begin_with c.vertices (index_of c)

-- 18: the columns have room for the pairs of n parts and for a list of k lines
unfoldable pub index_room : (n k : ℕ) → (index list : List ℕ) → Acceptance
index_room n k index list = test (leb (2 * n) (length index)) ColumnRoom (test (leb k (length list)) ColumnRoom (Ok tt))

-- 18, of an index that is to have so many lines more in its list; then 19: the columns begin with the index as it is
unfoldable pub held_acceptance : (n more : ℕ) → TableIndex → (index list : List ℕ) → Acceptance
held_acceptance n more x index list = and_then (index_room n (length x.list + more) index list) (test (begin_with n x index list) WrongIndex (Ok tt))

-- 1 to 6 and 21, then 18
unfoldable pub index_acceptance : Columns → (index list : List ℕ) → Acceptance
index_acceptance c index list = and_then (acceptance c) (index_room c.vertices (length (index_of c).list) index list)

-- what indexing returns, and the two columns as it leaves them
pub record IndexOutcome : Type 0 where
  pub result : Extent
  pub index : List ℕ
  pub list : List ℕ

-- on acceptance the columns begin with the index, and the list's length is returned; on a refusal nothing has changed
abbrev pub index_outcome : TableIndex → (index list : List ℕ) → Acceptance → IndexOutcome
index_outcome x index list (Ok _) = record { result = Ok (length x.list); index = filled x.pairs index; list = filled x.list list }
index_outcome x index list (Err r) = record { result = Err r; index = index; list = list }

unfoldable pub table_indexed : Columns → (index list : List ℕ) → IndexOutcome
table_indexed c index list = index_outcome (index_of c) index list (index_acceptance c index list)
