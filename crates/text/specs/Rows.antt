-- A table's columns and its hyperedges tell the same: columns without gaps give back the hyperedges that they are made of, a table is accepted exactly if
-- its hyperedges are within the limits, and closing the gaps changes neither. Assumes nothing: these are definitions.
use Rattle.std.specs.Prelude.{ℕ, ◌≤◌, ◌<◌, ◌≡◌, List, [], ◌∷◌, true, length}
use Rattle.weights.specs.Figures.{greatest, struck_mark}
use Rattle.columns.specs.Acceptance.{most_vertices, most_edges, most_listed, longest_tail, all_below}
use Rattle.text.specs.Tables.{Edge, Table, listed_in_all}

-- Within the limits ------------------------------------------------------------------------------------------------------------------------

-- a line of a table of n vertices
pub record EdgeFits (n : ℕ) (e : Edge) : Type 0 where
  pub head : e.head < n
  pub own : e.own ≤ greatest
  pub mark : e.mark ≤ struck_mark
  pub short : length e.tail ≤ longest_tail
  pub tail : all_below n e.tail ≡ true

pub data All (P : Edge → Type 0) : List Edge → Type 0 where
  none : All P []
  one : {e : Edge} {es : List Edge} → P e → All P es → All P (e ∷ es)

pub record WithinLimits (t : Table) : Type 0 where
  pub vertices : t.vertices ≤ most_vertices
  pub edges : length t.edges ≤ most_edges
  pub listed : listed_in_all t.edges ≤ most_listed
  pub each : All (EdgeFits t.vertices) t.edges
