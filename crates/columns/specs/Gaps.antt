-- Tables that differ in the contents of gaps alone. The paper's "Gaps may stand between spans and their contents are never looked at". Assumes nothing: these are
-- definitions.
use Rattle.std.specs.Prelude.{◌≡◌, List, ℕ, ◌+◌, ◌<◌, length, get_or}
use Rattle.columns.specs.Columns.{Columns, columns, offset_at, length_at}

-- another column of needed parts in the place of the table's: as long, and the same at every place of every span
pub record Gapped (c : Columns) (tails : List ℕ) : Type 0 where
  pub level : length c.tails ≡ length tails
  pub spanned : (e : ℕ) → e < length c.heads → (k : ℕ) → k < length_at c e → get_or c.tails (offset_at c e + k) 0 ≡ get_or tails (offset_at c e + k) 0

-- the table with that column
abbrev pub with_tails : Columns → List ℕ → Columns
with_tails c tails = columns c.vertices c.heads c.own c.strikes c.spans tails
