-- A lent column that is filled from its start. The paper's "writes that many places of each column; the rest keep theirs", and "Writing fills the text room
-- from its start …; the room behind it keeps its bytes". Assumes nothing: these are definitions.
use Rattle.std.specs.Prelude.{ℕ, List, ◌++◌, length, drop}

-- the new places, then what stood behind them
unfoldable pub filled : (new old : List ℕ) → List ℕ
filled new old = new ++ drop (length new) old
