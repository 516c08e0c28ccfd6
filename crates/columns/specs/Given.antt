-- What the lent columns of a call hold, as data. Assumes nothing: these are definitions.
use Rattle.std.specs.Prelude.{List, ℕ, length}
use Rattle.columns.specs.declared.Table.{Table}
use Rattle.columns.specs.declared.Entries as lent
use Rattle.columns.specs.Columns.{Answers, Columns, Entries, answers, columns, entries}

-- the table that is lent
abbrev pub columns_of : Table → Columns
columns_of t = columns t.vertices t.heads.now t.own.now t.strikes.now t.spans.now t.tails.now

-- the same of as many vertices as a column of depths has places
abbrev pub lent_of : Table → (depths : List ℕ) → Columns
lent_of t depths = columns (length depths) t.heads.now t.own.now t.strikes.now t.spans.now t.tails.now

-- the answers that are lent to be read
abbrev pub entries_in : lent.Entries → Entries
entries_in x = entries x.weights.now x.depths.now x.edges.now x.pieces.now

abbrev pub answers_in : lent.Entries → Answers
answers_in x = answers x.weights.now x.depths.now x.edges.now
