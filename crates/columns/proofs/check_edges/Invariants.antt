-- `columns::check_edges` meets its contract. The invariant: what is left of the table, from hyperedge i on, has the answer of all its hyperedges. Assumes nothing.
use mathlib.Core.Path.{◌≡◌}
use Prim.Native.Nat.{◌-◌}
use lib.ListN.{length}
use Rattle.columns.specs.Columns.{columns}
use Rattle.columns.specs.Acceptance.{edges_acceptance}
use Rattle.columns.proofs.check_edges.Given as goal

abbrev pub invariant-loop-i : goal.invariant-loop-i
invariant-loop-i l =
    let table = columns l.table.vertices l.table.heads.now l.table.own.now l.table.strikes.now l.table.spans.now l.table.tails.now in
    edges_acceptance table (length l.table.heads.now - l.i) l.i l.end ≡ edges_acceptance table (length l.table.heads.now) 0 0
