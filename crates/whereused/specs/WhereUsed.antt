-- The lines that need a part: "the rows of the table that need the part, as they stand in the text, each behind its line number". Assumes nothing: these are
-- definitions.
use Rattle.std.specs.Prelude.{ℕ, ◌≤◌, ◌<◌, List, [], ◌∷◌, ◌++◌, length, ltb}
use Rattle.weights.specs.Choice.{pick}
use Rattle.refusal.specs.declared.Refusal.TheVariants.{NoSuchVertex}
use Rattle.columns.specs.Columns.{Columns, head_at, own_at, strike_at, tail_at}
use Rattle.columns.specs.Lent.{Placed}
use Rattle.uses.specs.Uses.{uses_below}
use Rattle.text.specs.Tables.{edge}
use Rattle.text.specs.Render.{digits, edge_text}
use Rattle.reply.specs.Reply.{Said, answered, refused_by}

unfoldable pub use_row : Columns → ℕ → List ℕ
use_row c e = digits e ++ (32 ∷ (edge_text (edge (head_at c e) (own_at c e) (strike_at c e) (tail_at c e)) ++ 10 ∷ []))

-- those of a list of lines, one behind the other
unfoldable pub use_rows : Columns → List ℕ → List ℕ
use_rows c [] = []
use_rows c (e ∷ es) = use_row c e ++ use_rows c es

-- the lines that list v, as the index of uses has them: ascending, each once, struck ones too
abbrev pub uses_of : Columns → (v : ℕ) → List ℕ
uses_of c v = uses_below (tail_at c) v (length c.heads)

-- 11: no such part
unfoldable pub uses_said : Columns → (v : ℕ) → Said
uses_said c v = pick (ltb v c.vertices) (answered (use_rows c (uses_of c v))) (refused_by NoSuchVertex)

-- a bound on the bytes of a row: line, head and sixteen parts of four digits, a struck figure of 20
abbrev pub most_use : ℕ
most_use = 112

-- what writing the row of line e asks: it has its places, and the room holds its row
pub record RowIn (c : Columns) (e places : ℕ) : Type 0 where
  pub head : e < length c.heads
  pub own : e < length c.own
  pub mark : e < length c.strikes
  pub placed : Placed c.spans c.tails e
  pub short : length (use_row c e) ≤ most_use
  pub room : most_use ≤ places
