-- `quote::put_rows` meets its contract. The invariant: the rows of the lines so far are written, in at most as many times the bytes of a row. Assumes nothing.
use mathlib.Core.List.{List, []}
use Prim.Native.Nat.{ℕ, ◌*◌, ◌≤◌}
use lib.ListN.{length, take}
use Rattle.columns.specs.Columns.{Columns, columns}
use Rattle.writing.specs.Written.{Written}
use Rattle.quote.specs.Quote.{most_row, rows}
use Rattle.quote.proofs.put_rows.Given as goal

abbrev table_of : (heads own : List ℕ) → Columns
table_of heads own = columns 0 heads own [] [] []

abbrev pub invariant-loop-line : goal.invariant-loop-line
invariant-loop-line l =
    (l.line-index ≤ length l.lines) × Written (rows (table_of l.heads l.own) (take l.line-index l.lines)) l.initial.room l.at l.room × (l.at ≤ most_row * l.line-index)
