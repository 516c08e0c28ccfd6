-- `topological::check_lines` meets its contract. The invariant: what is left of the table, from hyperedge i on, has the answer of all its hyperedges. Assumes nothing.
use mathlib.Core.Path.{◌≡◌}
use Prim.Native.Nat.{◌-◌}
use lib.ListN.{length}
use Rattle.columns.specs.Columns.{columns}
use Rattle.topological.specs.Ordering.{ordered_edges_acceptance}
use Rattle.topological.proofs.check_lines.Given as goal

abbrev pub invariant-loop-i : goal.invariant-loop-i
invariant-loop-i l =
    let c = columns l.table.vertices l.table.heads.now l.table.own.now l.table.strikes.now l.table.spans.now l.table.tails.now in
    ordered_edges_acceptance c (length l.table.heads.now - l.i) l.i l.end ≡ ordered_edges_acceptance c (length l.table.heads.now) 0 0
