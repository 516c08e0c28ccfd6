-- What the functions below `report` ask of their caller, and the pieces in which a row and the line of a refusal are written. Assumes nothing: these are definitions.
use Rattle.std.specs.Prelude.{ℕ, ◌*◌, ◌≤◌, List, length, Ok}
use Rattle.refusal.specs.declared.Header.{Header}
use Rattle.columns.specs.Columns.{Columns}
use Rattle.columns.specs.Acceptance.{most_vertices}
use Rattle.settle.specs.Settling.{settled}
use Rattle.readtable.specs.Read.{read_outcome, columns_read}
use Rattle.report.specs.Report.{most_refusal, priced, blank_entries}

-- the table that a header tells of, at the start of five columns
abbrev pub lent_columns : Header → (heads own strikes spans tails : List ℕ) → Columns
lent_columns g h o ms s t = columns_read g (read_outcome (Ok g) h o ms s t)

-- the columns are so long, and the room holds the output
pub record Lent (g : Header) (h o ms s t : List ℕ) (room : ℕ) : Type 0 where
  pub few : g.vertices ≤ most_vertices
  pub heads : g.edges ≤ length h
  pub own : g.edges ≤ length o
  pub strikes : g.edges ≤ length ms
  pub spans : 2 * g.edges ≤ length s
  pub tails : g.listed ≤ length t
  pub large : most_refusal ≤ room
  pub fits : length (priced g.vertices (settled g.measure (lent_columns g h o ms s t) (blank_entries g.vertices))) ≤ room
