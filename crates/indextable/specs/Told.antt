-- What makes a column of pairs and a list the index of a table, with no word of how it is found. Document 02, 2026-01: "for each part a pair of offset and length,
-- sorted by offset, from 0 and without gaps, into a list of the lines that need the part. Each list is ascending, names a line once however often it lists the part,
-- and includes struck lines". Assumes nothing: these are definitions.
use Rattle.std.specs.Prelude.{◌≡◌, true, List, [], ◌↔◌, ℕ, ◌+◌, ◌*◌, ◌<◌, length, get_or}
use Rattle.weights.specs.Lists.{member}
use Rattle.columns.specs.Columns.{Columns, tail_at}

-- the pair of part v
abbrev pub offset_in : List ℕ → ℕ → ℕ
offset_in p v = get_or p (2 * v) 0

abbrev pub length_in : List ℕ → ℕ → ℕ
length_in p v = get_or p (2 * v + 1) 0

-- what stands at place i of the entries of part v; and e is one of them
abbrev pub entry_in : (p l : List ℕ) → (v i : ℕ) → ℕ
entry_in p l v i = get_or l (offset_in p v + i) 0

abbrev pub IsEntry : (p l : List ℕ) → (v e : ℕ) → Type 0
IsEntry p l v e = (i : ℕ) × ((i < length_in p v) × (entry_in p l v i ≡ e))

-- e is a line and lists v, struck or not
pub record Needs (c : Columns) (v e : ℕ) : Type 0 where
  pub numbered : e < length c.heads
  pub lists : member v (tail_at c e) ≡ true

-- the pairs p and the list l are an index of the table c
pub record Told (c : Columns) (p l : List ℕ) : Type 0 where
  pub places : length p ≡ 2 * c.vertices
  pub start : 0 < c.vertices → offset_in p 0 ≡ 0
  pub gapless : (v : ℕ) → v + 1 < c.vertices → offset_in p (v + 1) ≡ offset_in p v + length_in p v
  pub last : (v : ℕ) → v + 1 ≡ c.vertices → offset_in p v + length_in p v ≡ length l
  pub empty : c.vertices ≡ 0 → l ≡ []
  pub ascends : (v i j : ℕ) → v < c.vertices → i < j → j < length_in p v → entry_in p l v i < entry_in p l v j
  pub exactly : (v e : ℕ) → v < c.vertices → IsEntry p l v e ↔ Needs c v e
