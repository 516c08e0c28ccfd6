-- Document 02, 2026-11, one statement about every two accepted cost tables that differ in own figures alone, up or down at any lines: the same parts are unmade, and the change
-- of every part that is made in both, new less old, is at least the sum over all lines of the line's change times its count in the new bill, and at most the same sum with the old
-- bill. Assumes nothing: these are definitions.
use Rattle.std.specs.Prelude.{◌≡◌, ◌↔◌, ℕ, length, Ok}
use Rattle.weights.specs.declared.Measure.TheVariants.{Cost}
use Rattle.weights.specs.declared.State.TheVariants.{Made, Unmade}
use Rattle.provenance.specs.Hypergraph.{Derivation, listing}
use Rattle.provenance.specs.Means.{Follows}
use Rattle.provenance.specs.Sensitivity.{CostChange}
use Rattle.columns.specs.Columns.{Columns, own_at}
use Rattle.columns.specs.Acceptance.{acceptance}
use Rattle.tables.specs.Table.{hypergraph}
use Rattle.reprice.specs.Demand3.{labels_of, state_in}

-- the old table and the new one; accepted, they have an own figure for each line. The kept figures of struck lines may differ too: a struck line stands in no bill
pub record Revised (c c' : Columns) : Type 0 where
  pub accepted : acceptance c ≡ Ok tt
  pub accepted' : acceptance c' ≡ Ok tt
  pub vertices : c'.vertices ≡ c.vertices
  pub heads : c'.heads ≡ c.heads
  pub strikes : c'.strikes ≡ c.strikes
  pub spans : c'.spans ≡ c.spans
  pub tails : c'.tails ≡ c.tails

pub record Revision (c c' : Columns) : Type 0 where
  pub unmade : (v : ℕ) → (state_in Cost c v ≡ Unmade) ↔ (state_in Cost c' v ≡ Unmade)
  -- the counts are taken in the chosen make-ups
  pub changes : (v : ℕ) → state_in Cost c v ≡ Made → state_in Cost c' v ≡ Made
      → (t : Derivation (hypergraph c) v) → Follows (labels_of Cost c) t → (t' : Derivation (hypergraph c') v) → Follows (labels_of Cost c') t'
      → CostChange (own_at c) (own_at c') (length c.heads) (labels_of Cost c v).weight.0 (labels_of Cost c' v).weight.0 (listing t) (listing t')
