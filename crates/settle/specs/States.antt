-- What the state of a part says of its make-ups, in every measure. The paper's "Make-ups, figures, depth": over, unmade. Assumes nothing: these are definitions.
use Rattle.std.specs.Prelude.{◌≡◌, ◌↔◌, ℕ, ◌≤◌, ◌<◌}
use Rattle.weights.specs.declared.Measure.{Measure}
use Rattle.weights.specs.declared.Measure.TheVariants.{Cost, Days, Grade}
use Rattle.weights.specs.declared.State.TheVariants.{Made, Over, Unmade}
use Rattle.weights.specs.declared.Label.{Label}
use Rattle.weights.specs.Figures.{ceiling}
use Rattle.weights.specs.Labels.{label_state}
use Rattle.weights.specs.Measures.{grade}
use Rattle.provenance.specs.Hypergraph.{Hypergraph, Derivation, weight, listing}
use Rattle.provenance.specs.Semirings.{long_days}
use Rattle.provenance.specs.Counting.{total}
use Rattle.columns.specs.Columns.{Columns, own_at}
use Rattle.tables.specs.Table.{hypergraph}

-- a make-up's figure with no ceiling: in cost the plain sum along its bill, in days the plain sum of the own figure and the greatest of the parts'; a grade has none
abbrev pub uncapped : Measure → (own : ℕ → ℕ) {H : Hypergraph} {v : ℕ} → Derivation H v → ℕ
uncapped Cost own d = total own (listing d)
uncapped Days own d = weight long_days own d
uncapped Grade own d = weight grade own d

module _ (m : Measure) (c : Columns) (v : ℕ) where
  -- v has a make-up, and the plain sum of every one is above the ceiling
  pub record Dear : Type 0 where
    pub shown : Derivation (hypergraph c) v
    pub dear : (d : Derivation (hypergraph c) v) → ceiling < uncapped m (own_at c) d

  -- v has a make-up whose plain sum is at most the ceiling
  pub record Affordable : Type 0 where
    pub shown : Derivation (hypergraph c) v
    pub low : uncapped m (own_at c) shown ≤ ceiling

-- the state of part v, whose label is l
pub record StateMeans (m : Measure) (c : Columns) (l : Label) (v : ℕ) : Type 0 where
  pub made : (label_state l ≡ Made) ↔ Affordable m c v
  pub over : (label_state l ≡ Over) ↔ Dear m c v
  pub unmade : (label_state l ≡ Unmade) ↔ (¬ Derivation (hypergraph c) v)
