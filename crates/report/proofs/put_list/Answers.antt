-- `report::put_list` meets its contract: the names, and the rows in the room behind them. Assumes nothing.
use Rattle.std.proofs.Common.{ℕ, List, length, arith, rules}
use Rattle.columns.specs.Columns.{entries}
use Rattle.writing.proofs.Written.{lent-room, within, written_part, first_fits}
use Rattle.report.specs.Report.{names, rows, list}
use Rattle.report.proofs.put_list.Goals as goal

-- the piece behind the names
abbrev back : (weights depths edges pieces : List ℕ) → List ℕ
back weights depths edges pieces = rows (entries weights depths edges pieces) (length depths)

pub put_bytes-at-requires : goal.put_bytes-at-requires
unfolding list names
put_bytes-at-requires c = let a = c.args in first_fits names (back a.entries.now.weights.now a.entries.now.depths.now a.entries.now.edges.now a.entries.now.pieces.now) a.room.now c.requires

pub slice_bounds-put_rows-count : goal.slice_bounds-put_rows-count
unfolding list names
slice_bounds-put_rows-count c = let a = c.args in within names _ _ _ c.put_bytes-at.ensures (back a.entries.now.weights.now a.entries.now.depths.now a.entries.now.edges.now a.entries.now.pieces.now) c.requires

pub slice_bounds-put_rows-start : goal.slice_bounds-put_rows-start
unfolding list names
slice_bounds-put_rows-start c =
    let a = c.args in let r = within names _ _ _ c.put_bytes-at.ensures (back a.entries.now.weights.now a.entries.now.depths.now a.entries.now.edges.now a.entries.now.pieces.now) c.requires in search (rules, r)

pub put_rows-width-requires : goal.put_rows-width-requires
unfolding list names
put_rows-width-requires c = let a = c.args in lent-room names _ _ _ c.put_bytes-at.ensures (back a.entries.now.weights.now a.entries.now.depths.now a.entries.now.edges.now a.entries.now.pieces.now) c.requires

pub overflow_add-result : goal.overflow_add-result
unfolding list names
overflow_add-result c =
    let a = c.args in
    let n = (written_part names _ _ _ c.put_bytes-at.ensures (back a.entries.now.weights.now a.entries.now.depths.now a.entries.now.edges.now a.entries.now.pieces.now) _ _ c.requires c.put_rows-width.ensures).count in
    let w = c.requires in
    omega (arith, c.well_formed)

pub returns : goal.returns
unfolding list names
returns c = let a = c.args in written_part names _ _ _ c.put_bytes-at.ensures (back a.entries.now.weights.now a.entries.now.depths.now a.entries.now.edges.now a.entries.now.pieces.now) _ _ c.requires c.put_rows-width.ensures
