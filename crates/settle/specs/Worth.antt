-- What the source says of a part's figure, for each measure (document 000, Definitions 5 and 10, Example 6; document 003, Semiring 5), and of a grade in plain words.
-- Assumes nothing: these are definitions.
use Rattle.std.specs.Prelude.{◌≡◌, ◌≢◌, ℕ, ◌≤◌}
use Rattle.semiring.specs.Datalog.{Provenance, BestWeight}
use Rattle.weights.specs.declared.Measure.{Measure}
use Rattle.weights.specs.declared.Measure.TheVariants.{Cost, Days, Grade}
use Rattle.weights.specs.declared.Label.{Label}
use Rattle.weights.specs.declared.State.TheVariants.{Over}
use Rattle.weights.specs.Figures.{greatest}
use Rattle.weights.specs.Labels.{label_state}
use Rattle.weights.specs.Measures.{grade}
use Rattle.provenance.specs.Hypergraph.{Derivation, weight}
use Rattle.provenance.specs.Labelling.{Made}
use Rattle.provenance.specs.Semirings.{valuation, Valued}
use Rattle.provenance.specs.Program.{part, program}
use Rattle.provenance.specs.BestWeight.{weighted}
use Rattle.columns.specs.Columns.{Columns, own_at}
use Rattle.tables.specs.Table.{hypergraph}

-- what the source says of the figure of part v, whose label is l: in cost the provenance (Definition 5), in the tropical semiring; in days the best weight
-- (Definition 10), on the bottleneck semiring; in grade the provenance, in the semiring of grades
abbrev pub Worth : Measure → Columns → Label → ℕ → Type 0
Worth Cost c l v = Valued (valuation Cost) (Provenance (program (valuation Cost) (hypergraph c) (own_at c)) (part v)) l
Worth Days c l v = Valued (valuation Days) (BestWeight (weighted (valuation Days) (hypergraph c) (own_at c)) v) l
Worth Grade c l v = Valued (valuation Grade) (Provenance (program (valuation Grade) (hypergraph c) (own_at c)) (part v)) l

-- demand 2 in grade, in plain ≤: some make-up has the figure and none weighs more
pub record GreatestGrade (c : Columns) (l : Label) (v : ℕ) : Type 0 where
  pub attained : Made l → (d : Derivation (hypergraph c) v) × (weight grade (own_at c) d ≡ l.weight.0)
  pub most : (d : Derivation (hypergraph c) v) → weight grade (own_at c) d ≤ l.weight.0

-- "nothing goes over"
pub record NeverOver (l : Label) : Type 0 where
  pub low : l.weight.0 ≤ greatest
  pub state : label_state l ≢ Over
