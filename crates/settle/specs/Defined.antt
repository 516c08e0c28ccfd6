-- The answers that the paper defines, with no word of how they are found. The paper's "Check answers: yes exactly if they are the ones defined above, whoever wrote
-- them". Assumes nothing: these are definitions.
use Rattle.std.specs.Prelude.{◌≡◌, ℕ, ◌<◌, get_or, Ok}
use Rattle.weights.specs.declared.Measure.{Measure}
use Rattle.weights.specs.Measures.{algebra}
use Rattle.provenance.specs.Means.{Means}
use Rattle.columns.specs.Columns.{Entries, Columns, own_at}
use Rattle.provenance.specs.BestFirst.{labels}
use Rattle.provenance.specs.Pieces.{HasPieces}
use Rattle.tables.specs.Table.{hypergraph}
use Rattle.columns.specs.Acceptance.{lent_acceptance}

-- the entry of part v is the one that the paper defines: its label, and its piece count (document 02, 2026-09)
pub record EntryMeans (m : Measure) (c : Columns) (a : Entries) (v : ℕ) : Type 0 where
  pub means : Means (algebra m) (hypergraph c) (own_at c) (labels a.labels v) v
  pub pieces : HasPieces (hypergraph c) (labels a.labels) v (get_or a.pieces v 0)

-- so is every part's
abbrev pub AllMean : Measure → Columns → Entries → Type 0
AllMean m c a = (v : ℕ) → v < c.vertices → EntryMeans m c a v

-- and the columns are accepted
pub record Defined (m : Measure) (c : Columns) (a : Entries) : Type 0 where
  pub accepted : lent_acceptance c a ≡ Ok tt
  pub means : AllMean m c a
