-- When a changed line leaves the answers as they are. Assumes nothing: these are definitions.
use Rattle.std.specs.Prelude.{◌≡◌, Bool, false, List, ℕ, eqb}
use Rattle.weights.specs.declared.Measure.{Measure}
use Rattle.weights.specs.Measures.{algebra}
use Rattle.weights.specs.Choice.{pick}
use Rattle.columns.specs.Columns.{Answers, Columns, columns, cell, head_at, own_at, strike_at}
use Rattle.provenance.specs.BestFirst.{labels}
use Rattle.provenance.specs.Local.{edge_right}
use Rattle.tables.specs.Table.{hypergraph}

-- the label of e's head does not name e, and does not come after what e offers. A blank label names line 0, which then does not rest: it is settled again
unfoldable pub rests : Measure → Columns → Answers → ℕ → Bool
rests m c a e = pick (eqb (labels a (head_at c e)).edge.0 e) false (edge_right (algebra m) (hypergraph c) (own_at c) (labels a) e)

-- the same columns with other own figures and strike marks
abbrev pub with_lines : Columns → (own strikes : List ℕ) → Columns
with_lines c own strikes = columns c.vertices c.heads own strikes c.spans c.tails

-- which differ from the table's in line e alone
pub record OnlyAt (c : Columns) (e : ℕ) (own strikes : List ℕ) : Type 0 where
  pub figures : (x : ℕ) → ¬ (x ≡ e) → cell own x ≡ own_at c x
  pub marks : (x : ℕ) → ¬ (x ≡ e) → cell strikes x ≡ strike_at c x
