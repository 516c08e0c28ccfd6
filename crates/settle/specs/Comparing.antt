-- The answer check as it is computed (document 02, 2026-04): the two tests of provenance/Local from the columns of the lines' values and heights, which are worked out
-- once. Assumes nothing: these are definitions.
use Rattle.std.specs.Prelude.{◌≡◌, Bool, false, List, ℕ, ◌≤◌, ◌<◌, length, ltb, eqb}
use Rattle.weights.specs.declared.Measure.{Measure}
use Rattle.weights.specs.declared.Label.{Label}
use Rattle.weights.specs.Measures.{Algebra, algebra}
use Rattle.weights.specs.Choice.{pick}
use Rattle.columns.specs.Columns.{Answers, Columns, cell, own_at}
use Rattle.columns.specs.Lent.{Turning}
use Rattle.provenance.specs.BestFirst.{labels}
use Rattle.provenance.specs.Local.{every, vertex_right, edge_right}
use Rattle.provenance.specs.Values.{gives_at, keeps_up_at}
use Rattle.tables.specs.Table.{hypergraph}

module _ (heads vs hs : List ℕ) (ls : ℕ → Label) where
  -- the label of v is blank, or the value and the height of its own hyperedge
  unfoldable pub vertex_fits : ℕ → Bool
  vertex_fits v =
      pick (eqb (ls v).depth 0)
      (pick (eqb (ls v).weight.0 0) (eqb (ls v).edge.0 0) false)
      (pick (ltb (ls v).edge.0 (length heads))
      (pick (eqb (cell heads (ls v).edge.0) v) (gives_at (cell vs (ls v).edge.0) (cell hs (ls v).edge.0) (ls v).weight.0 (ls v).depth) false)
      false)

  -- the label of e's head does not come after e's value and height
  unfoldable pub edge_fits : Algebra → ℕ → Bool
  edge_fits A e = keeps_up_at A (ls (cell heads e)) (cell vs e) (cell hs e) e

-- the columns that are compared: a place for every head, every vertex and every hyperedge
pub record Comparable (heads vs hs : List ℕ) (a : Answers) : Type 0 where
  pub inside : (e : ℕ) → e < length heads → cell heads e < length a.depths
  pub weights : length a.weights ≡ length a.depths
  pub edges : length a.edges ≡ length a.depths
  pub values : length heads ≤ length vs
  pub heights : length heads ≤ length hs

-- a table with its answer columns, and room for the value and the height of every line
pub record Weighable (c : Columns) (a : Answers) (vs hs : List ℕ) : Type 0 where
  pub turning : Turning c a
  pub values : length c.heads ≤ length vs
  pub heights : length c.heads ≤ length hs

-- the tests of provenance/Local, of every vertex and of every hyperedge
unfoldable pub all_right : Measure → Columns → Answers → Bool
all_right m c a =
    pick (every (vertex_right (algebra m) (hypergraph c) (own_at c) (labels a)) (length a.depths))
    (every (edge_right (algebra m) (hypergraph c) (own_at c) (labels a)) (length c.heads))
    false
