-- When a table is indexed, by what the call is refused, and which columns hold a table's index. Document 02, 2026-01: "One call builds it and returns the list's length";
-- "18 if a column, the index's two included, has no room"; "19 if the lent index isn't this table's". Assumes nothing: these are definitions.
use Rattle.std.specs.Prelude.{List, ℕ, ◌*◌, ◌≤◌, length, take}
use Rattle.refusal.specs.declared.Refusal.{Refusal}
use Rattle.refusal.specs.declared.Refusal.TheVariants.{ColumnRoom}
use Rattle.columns.specs.Columns.{Columns}
use Rattle.columns.specs.Right.{RightTable, WrongTable}
use Rattle.indextable.specs.Index.{index_of}
use Rattle.indextable.specs.Told.{Told}

-- two columns have a pair of places for each part, and a place for every entry of the table's list
pub record IndexFits (c : Columns) (index list : List ℕ) : Type 0 where
  pub pairs : 2 * c.vertices ≤ length index
  pub entries : length (index_of c).list ≤ length list

-- two columns begin with an index of the table; what comes after it is not looked at
abbrev pub IsIndex : Columns → (index list : List ℕ) → Type 0
IsIndex c index list = (k : ℕ) × Told c (take (2 * c.vertices) index) (take k list)

-- 1 to 6 and 21, then 18
pub record RightIndexing (c : Columns) (index list : List ℕ) : Type 0 where
  pub table : RightTable c
  pub room : IndexFits c index list

pub data WrongIndexing (c : Columns) (index list : List ℕ) : Refusal → Type 0 where
  table : {r : Refusal} → WrongTable c r → WrongIndexing c index list r
  room : RightTable c → ¬ IndexFits c index list → WrongIndexing c index list ColumnRoom
