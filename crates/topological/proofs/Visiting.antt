-- What a vertex that can be visited gives along the list of its lines. Assumes nothing.
use mathlib.Core.Path.{◌≡◌}
use mathlib.Core.Logic.{◌≢◌}
use mathlib.Core.List.{List}
use Prim.Native.Nat.{ℕ, ◌≤◌, ◌<◌}
use native.Mathlib.Omega.{arith}
use lib.ListN.{length}
use Rattle.weights.specs.declared.Measure.{Measure}
use Rattle.weights.specs.Measures.{algebra}
use Rattle.provenance.specs.BestFirst.{offer}
use Rattle.columns.specs.Columns.{Columns, cell}
use Rattle.columns.specs.Acceptance.{most_vertices, most_edges}
use Rattle.columns.proofs.Accepted.{table_accepted}
use Rattle.columns.proofs.Usable.{edge_in}
use Rattle.tables.specs.Table.{hypergraph}
use Rattle.queue.specs.Keys.{Fitting, key_of}
use Rattle.offers.proofs.Passing.{passable}
use Rattle.topological.specs.Walking.{end, Visitable, Weighable, visited}
use Rattle.topological.proofs.Passing.{offer_fits}
use Rattle.topological.proofs.Linking.{fitting_best, Along, along_line, along_end, along_further}

module _ {c : Columns} {ws ds fs ns : List ℕ} {v : ℕ} (g : Visitable c ws ds fs ns v) where
  pub few : length c.heads ≤ most_edges
  few = (table_accepted c g.usable.accepted).edges

  pub low : v < most_vertices
  low = omega (arith, g.inside, g.usable.vertices, (table_accepted c g.usable.accepted).few)

  module _ (m : Measure) where
    pub fits : (e : ℕ) → e < length c.heads → Fitting (offer (algebra m) (hypergraph c) (cell c.own) (cell ws) (cell ds) e)
    fits e h = offer_fits m _ _ _ _ _ e g.usable.shallow (omega (arith, few))

    pub fitting : Fitting (visited m c ws ds v)
    fitting = fitting_best m c _ _ v fits (length c.heads) (omega arith)

  module _ {m : Measure} {l key : ℕ} (a : Along m c (cell ws) (cell ds) v l key) where
    pub told : l ≡ end → key ≡ key_of m (visited m c ws ds v)
    told p = along_end m c _ _ v a few p

    module _ (n : l ≢ end) where
      pub numbered : l < length c.heads
      numbered = along_line m c _ _ v a n

      pub narrow : l < most_edges
      narrow = omega (arith, numbered, few)

      pub further : l < cell ns l
      further = along_further m c _ _ v a g.linked n few

      pub weighable : Weighable l c.own c.spans c.tails ws ds
      weighable =
          let e = edge_in g.usable l numbered in
          record {
            numbered = narrow;
            own = e.own;
            figure = ((table_accepted c g.usable.accepted).each l numbered).1.own;
            placed = e.placed;
            tail = passable e g.light;
          }
