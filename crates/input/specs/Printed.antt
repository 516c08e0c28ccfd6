-- What is printed of what was read, by the last answer of `read`. Assumes nothing: this is a definition.
use Rattle.std.specs.Prelude.{List, [], ℕ, ℤ, pos, negsuc}
use Rattle.report.specs.Report.{report}

-- the bytes printed; after a reading that failed, those of an empty input, since the start of a table is not the table
abbrev pub printed : List ℕ → ℤ → List ℕ
printed input (pos k) = report input
printed input (negsuc k) = report []
