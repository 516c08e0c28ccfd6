-- `report::put_rows` meets its contract. The invariant: the rows of the parts so far are written. Assumes nothing.
use Rattle.columns.specs.Columns.{entries}
use Rattle.writing.specs.Written.{Written}
use Rattle.report.specs.Report.{rows}
use Rattle.report.proofs.put_rows.Given as goal

abbrev pub invariant-loop-i : goal.invariant-loop-i
invariant-loop-i l = Written (rows (entries l.entries.weights.now l.entries.depths.now l.entries.edges.now l.entries.pieces.now) l.i) l.initial.room l.at l.room
