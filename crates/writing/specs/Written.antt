-- Room that is written from its start: the bytes so far, their number, and the laws of one byte more and of a piece more in the part that is lent on.
-- The paper's "Writing fills the text room from its start …; the room behind it keeps its bytes". Assumes nothing: these are definitions.
use Rattle.std.specs.Prelude.{ℕ, ◌≤◌, ◌≡◌, List, true, length}
use Rattle.weights.specs.Figures.{greatest}
use Rattle.columns.specs.Acceptance.{most_vertices, longest_tail, all_below}
use Rattle.columns.specs.Filled.{filled}

-- n bytes are written
pub record Written (bytes old : List ℕ) (n : ℕ) (room : List ℕ) : Type 0 where
  pub count : n ≡ length bytes
  pub room_is : room ≡ filled bytes old
  pub long : length room ≡ length old

-- what keeps the widths from wrapping: an own figure, and a list, of an accepted table
abbrev pub OwnFits : ℕ → Type 0
OwnFits o = o ≤ greatest

pub record TailFits (vs : List ℕ) : Type 0 where
  pub short : length vs ≤ longest_tail
  pub below : all_below most_vertices vs ≡ true
