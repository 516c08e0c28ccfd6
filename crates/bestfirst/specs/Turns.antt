-- What holds between the turns of best-first over a table in columns (document 000, Algorithm 1): which hyperedges wait for which vertex, and which labels are
-- queued. Assumes nothing: these are definitions.
use Rattle.std.specs.Prelude.{◌≡◌, ℕ, ◌*◌, ◌≤◌, ◌<◌, List, length, replicate}
use Rattle.weights.specs.declared.Measure.{Measure}
use Rattle.weights.specs.declared.Label.{Label}
use Rattle.weights.specs.Measures.{algebra}
use Rattle.columns.specs.Columns.{Answers, Columns, cell}
use Rattle.provenance.specs.BestFirst.{turns}
use Rattle.tables.specs.Table.{hypergraph}
use Rattle.columns.specs.Lent.{Turning}
use Rattle.minima.specs.Minima.{none}
use Rattle.queue.specs.Keys.{heavy}
use Rattle.waiting.specs.Lines.{end, Lines, Room, Sizes, Untouched, Rested}

-- a label's hyperedge has a head, and that head its place in each column
pub record Placeable (l : Label) (heads : List ℕ) (a : Answers) : Type 0 where
  pub numbered : l.edge.0 < length heads
  pub weights : cell heads l.edge.0 < length a.weights
  pub depths : cell heads l.edge.0 < length a.depths
  pub edges : cell heads l.edge.0 < length a.edges

-- what holds of labels, lists and queue
pub record Waits (m : Measure) (c : Columns) (ws ds : List ℕ) (s : Lines) (q : List ℕ) : Type 0 where
  pub light : (v : ℕ) → cell ws v < heavy
  pub rested : Rested m c ws ds s q

-- between two turns
pub record Underway (m : Measure) (c : Columns) (a : Answers) (s : Lines) (q : List ℕ) : Type 0 where
  pub turning : Turning c a
  pub taken : ℕ
  pub more : taken < c.vertices
  pub shallow : (v : ℕ) → cell a.depths v ≤ taken
  pub waits : Waits m c a.weights a.depths s q

-- before the first turn
pub record Blank (m : Measure) (c : Columns) (a : Answers) : Type 0 where
  pub turning : Turning c a
  pub blank : a ≡ turns (algebra m) (hypergraph c) (cell c.own) 0

pub record Begun (m : Measure) (c : Columns) (a : Answers) (s : Lines) (q : List ℕ) : Type 0 where
  pub unmade : Blank m c a
  pub waits : Waits m c a.weights a.depths s q

-- columns to work in, with as many places: nothing is passed, every list ends at once, and no key waits
pub record Cleared (m : Measure) (r : Room) (s : Lines) (q : List ℕ) : Type 0 where
  pub sizes : Sizes r s
  pub untouched : (e : ℕ) → e < r.edges → Untouched (algebra m) s e
  pub first : s.first ≡ replicate r.vertices end
  pub queue : q ≡ replicate (2 * r.vertices) none
