-- "Read after write gives the table with its gaps closed; write after read gives the text back": the paper's "The text", of what the contracts of
-- `read_table` and `write_table` say. Assumes nothing: these are definitions.
use Rattle.std.specs.Prelude.{ℕ, ◌≤◌, List, length, Ok}
use Rattle.weights.specs.declared.Measure.{Measure}
use Rattle.refusal.specs.declared.Header.{Header}
use Rattle.columns.specs.Columns.{Columns}
use Rattle.columns.specs.Filled.{filled}
use Rattle.readtable.specs.Read.{ReadOutcome, read_outcome}

-- five columns have room for those of a table
pub record Room (c : Columns) (h o ms s t : List ℕ) : Type 0 where
  pub heads : length c.heads ≤ length h
  pub own : length c.own ≤ length o
  pub strikes : length c.strikes ≤ length ms
  pub spans : length c.spans ≤ length s
  pub tails : length c.tails ≤ length t

-- what is told of columns without gaps
abbrev pub header_for : Measure → Columns → Header
header_for m c = record { vertices = c.vertices; measure = m; edges = length c.heads; listed = length c.tails }

-- the columns filled from their start with those of a table
abbrev pub filled_with : Columns → Measure → (h o ms s t : List ℕ) → ReadOutcome
filled_with c m h o ms s t =
    read_outcome (Ok (header_for m c)) (filled c.heads h) (filled c.own o) (filled c.strikes ms) (filled c.spans s) (filled c.tails t)
