-- The hypergraph of an accepted table is well formed. Assumes nothing.
use mathlib.Core.Path.{◌≡◌}
use Rattle.provenance.specs.Hypergraph.{WellFormed}
use Rattle.columns.specs.Columns.{Columns}
use Rattle.columns.specs.Acceptance.{acceptance}
use Rattle.columns.proofs.Accepted.{table_accepted}
use Rattle.tables.specs.Table.{hypergraph}
use Rattle.std.specs.Prelude.{Ok}

pub well_formed : (c : Columns) → acceptance c ≡ Ok tt → WellFormed (hypergraph c)
well_formed c p = record { heads = λ e h. ((table_accepted c p).each e h).1.head }
