-- A permitted text is read; what is not permitted is refused by 14, at the first byte that can't stand where it stands. The paper's "What is turned away", of what the
-- contract of `read_table` says. Assumes nothing: these are definitions.
use Rattle.std.specs.Prelude.{ℕ, List, Err}
use Rattle.refusal.specs.declared.Refusal.TheVariants.{Text}
use Rattle.readtable.specs.Read.{ReadOutcome, read_outcome}

-- refused by 14 with a line and a column of the text, and every column of the table as it was
abbrev pub refused_at : (line column : ℕ) → (h o ms s t : List ℕ) → ReadOutcome
refused_at k c h o ms s t = read_outcome (Err (Text (record { 0 = k }) (record { 0 = c }))) h o ms s t
