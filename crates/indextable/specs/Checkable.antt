-- What the check of an index asks of its caller. Assumes nothing: these are definitions.
use Rattle.std.specs.Prelude.{List, ℕ, ◌≤◌, length}
use Rattle.columns.specs.Columns.{tail_of}
use Rattle.columns.specs.Acceptance.{most_vertices, most_listed, longest_tail}
use Rattle.uses.specs.Uses.{use_list, pairs_in}
use Rattle.uses.specs.Indexable.{Readable, Indexable}

-- tails that can be read, of few parts and with few uses; and a line more at most
pub record Checkable (n : ℕ) (spans tails : List ℕ) (more : ℕ) : Type 0 where
  pub few : n ≤ most_vertices
  pub readable : Readable n spans tails
  pub uses : length (use_list (tail_of spans tails) (pairs_in spans) n) ≤ most_listed
  pub one : more ≤ longest_tail

-- the same with room for the index
pub record Held (spans tails : List ℕ) (more : ℕ) (pairs lines : List ℕ) : Type 0 where
  pub indexable : Indexable spans tails pairs lines
  pub uses : length (use_list (tail_of spans tails) (pairs_in spans) (pairs_in pairs)) ≤ most_listed
  pub one : more ≤ longest_tail
