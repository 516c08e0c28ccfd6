-- Demand 3, one statement about every two accepted tables that agree in n, in the measure and in all columns but one own figure, raised by d on a line that is
-- unstruck in both: repricing that line carries the answers of either table to the other's; the same parts are unmade; and in cost every part that is made in both
-- rises by at least d × (how often the line stands in its new bill) and at most d × (how often in its old bill), in days and in grade by 0 to d. Assumes nothing:
-- these are definitions.
use Rattle.std.specs.Prelude.{◌≡◌, false, ◌↔◌, ℕ, ◌+◌, ◌<◌, length, Ok}
use Rattle.weights.specs.declared.Measure.{Measure}
use Rattle.weights.specs.declared.Measure.TheVariants.{Cost, Days, Grade}
use Rattle.weights.specs.declared.State.{State}
use Rattle.weights.specs.declared.State.TheVariants.{Made, Unmade}
use Rattle.weights.specs.declared.Label.{Label}
use Rattle.weights.specs.Figures.{is_struck_mark}
use Rattle.weights.specs.Labels.{label_state}
use Rattle.provenance.specs.Hypergraph.{Derivation, listing}
use Rattle.provenance.specs.Means.{Follows}
use Rattle.columns.specs.Columns.{Entries, Columns, own_at, strike_at, with_own}
use Rattle.provenance.specs.BestFirst.{labels}
use Rattle.provenance.specs.Counting.{count}
use Rattle.provenance.specs.Sensitivity.{CostRise, DaysRise}
use Rattle.tables.specs.Table.{hypergraph}
use Rattle.columns.specs.Acceptance.{acceptance}
use Rattle.settle.specs.Settling.{answers_of, entries_of, settled}
use Rattle.settle.specs.Demands.{Demand2}
use Rattle.reprice.specs.Repricing.{repriced}

-- the labels of a table, and the state of part v
abbrev pub labels_of : Measure → Columns → ℕ → Label
labels_of m c = labels (answers_of m c)

abbrev pub state_in : Measure → Columns → ℕ → State
state_in m c v = label_state (labels_of m c v)

-- the two tables: the new one is the old with line e raised by d
pub record Pair (c c' : Columns) (e d : ℕ) : Type 0 where
  pub accepted : acceptance c ≡ Ok tt
  pub accepted' : acceptance c' ≡ Ok tt
  pub raised : c' ≡ with_own c e (own_at c e + d)
  pub numbered : e < length c.heads
  pub unstruck : is_struck_mark (strike_at c e) ≡ false

-- by how much a part's figure rises, from w to w', where the line stands `old` times in its old bill and `new` times in its new one
abbrev pub Rise : Measure → (d w w' old new : ℕ) → Type 0
Rise Cost d w w' old new = CostRise d w w' old new
Rise Days d w w' old new = DaysRise d w w'
Rise Grade d w w' old new = DaysRise d w w'

-- no tree in it: settling either table and then repricing the line to the other's figure leaves what settling the other gives, and the same parts are unmade
pub record Carries (m : Measure) (c c' : Columns) (e : ℕ) : Type 0 where
  pub up : (a a' : Entries) → (settled m c a).result ≡ Ok tt → (settled m c' a').result ≡ Ok tt
      → repriced m c (settled m c a).left e (own_at c' e) ≡ record { result = Ok tt; own = c'.own; left = (settled m c' a').left }
  pub down : (a a' : Entries) → (settled m c a).result ≡ Ok tt → (settled m c' a').result ≡ Ok tt
      → repriced m c' (settled m c' a').left e (own_at c e) ≡ record { result = Ok tt; own = c.own; left = (settled m c a).left }
  pub unmade : (v : ℕ) → (state_in m c v ≡ Unmade) ↔ (state_in m c' v ≡ Unmade)

pub record Demand3 (m : Measure) (c c' : Columns) (e d : ℕ) : Type 0 where
  pub carries : Carries m c c' e
  -- the answers of either table are its own by demand 2: every part that is made or over has its chosen make-up
  pub means : (v : ℕ) → Demand2 m c (entries_of m c) v
  pub means' : (v : ℕ) → Demand2 m c' (entries_of m c') v
  -- every part that is made in both rises within its bounds, the counts taken in its chosen make-ups
  pub rises : (v : ℕ) → state_in m c v ≡ Made → state_in m c' v ≡ Made
      → (t : Derivation (hypergraph c) v) → Follows (labels_of m c) t → (t' : Derivation (hypergraph c') v) → Follows (labels_of m c') t'
      → Rise m d (labels_of m c v).weight.0 (labels_of m c' v).weight.0 (count e (listing t)) (count e (listing t'))
