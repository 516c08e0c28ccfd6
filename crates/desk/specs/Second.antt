-- The second input, over all that the program prints: only `compare` and `replay` look at it, and what their promises speak of is what is said. Assumes nothing: these are definitions.
use Rattle.std.specs.Prelude.{◌≡◌, false, List, [], ◌∷◌, ◌++◌, ℕ}
use Rattle.weights.specs.declared.Measure.{Measure}
use Rattle.columns.specs.Columns.{Columns}
use Rattle.settle.specs.Settling.{entries_of}
use Rattle.text.specs.Tables.{closed}
use Rattle.text.specs.Render.{render}
use Rattle.command.specs.Command.{compare_word, replay_word, takes_second}
use Rattle.ledger.specs.Ledger.{replay_said}
use Rattle.compare.specs.Compare.{compared_said}
use Rattle.desk.specs.Desk.{desk_said}

-- "only `compare` and `replay` look at the second input": of other words the same is said, whatever it is
abbrev pub SecondUnlooked : (words : List ℕ) → Type 0
SecondUnlooked words = takes_second words ≡ false → (input s t : List ℕ) → desk_said words input s ≡ desk_said words input t

-- the word alone, and the LF behind it
abbrev pub compare_line : List ℕ
compare_line = compare_word ++ 10 ∷ []

abbrev pub replay_line : List ℕ
replay_line = replay_word ++ 10 ∷ []

-- `compare`, of the text of a table: its answers are compared with the second input, whatever that is
abbrev pub Compares : Measure → Columns → (second : List ℕ) → Type 0
Compares m c second = desk_said compare_line (render m c) second ≡ compared_said c.vertices (entries_of m c) second

-- `replay`, of the text of a table: the second input, whatever it is, is replayed over it and its answers. A text has no gaps, so the table is the one with its gaps closed
abbrev pub Replays : Measure → Columns → (second : List ℕ) → Type 0
Replays m c second = desk_said replay_line (render m c) second ≡ replay_said m (closed c) (entries_of m c) second
