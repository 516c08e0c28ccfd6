-- What the functions below a call know of the lent columns: the table that they hold, and records of what each may ask of its caller. Assumes nothing: these are
-- definitions.
use Rattle.std.specs.Prelude.{◌≡◌, ℕ, ◌+◌, ◌*◌, ◌≤◌, ◌<◌, List, length, Ok}
use Rattle.columns.specs.Columns.{Answers, Columns, columns, cell, tail_of}
use Rattle.columns.specs.Acceptance.{most_vertices, longest_tail, acceptance}

-- a table of as many vertices as the column of depths has places
abbrev pub lent : (heads own strikes spans tails depths : List ℕ) → Columns
lent heads own strikes spans tails depths = columns (length depths) heads own strikes spans tails

-- the span of hyperedge e lies within the columns
pub record Placed (spans tails : List ℕ) (e : ℕ) : Type 0 where
  pub span : 2 * e + 1 < length spans
  pub short : cell spans (2 * e + 1) ≤ longest_tail
  pub within : cell spans (2 * e) + cell spans (2 * e + 1) ≤ length tails

-- a tail can be read: its vertices have their places, and one more than a depth does not wrap
pub record Legible (tail ws ds : List ℕ) : Type 0 where
  pub level : length ws ≡ length ds
  pub inside : (k : ℕ) → k < length tail → cell tail k < length ds
  pub shallow : (v : ℕ) → cell ds v ≤ most_vertices

-- so can hyperedge e
pub record EdgeIn (e : ℕ) (os ms ss ts ws ds : List ℕ) : Type 0 where
  pub own : e < length os
  pub mark : e < length ms
  pub placed : Placed ss ts e
  pub legible : Legible (tail_of ss ts e) ws ds

-- an accepted table with columns of its length
pub record Usable (c : Columns) (ws ds : List ℕ) : Type 0 where
  pub accepted : acceptance c ≡ Ok tt
  pub level : length ws ≡ length ds
  pub vertices : length ds ≡ c.vertices
  pub shallow : (v : ℕ) → cell ds v ≤ most_vertices

-- the same, with all three columns
pub record Turning (c : Columns) (a : Answers) : Type 0 where
  pub usable : Usable c a.weights a.depths
  pub edges : length a.edges ≡ length a.depths
