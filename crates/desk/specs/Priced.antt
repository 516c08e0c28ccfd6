-- `price` prints what the listing program prints; and a table that a command printed is priced as the table that it is. Assumes nothing: these are definitions.
use Rattle.std.specs.Prelude.{◌≡◌, List, [], ◌∷◌, ◌++◌, ℕ}
use Rattle.weights.specs.declared.Measure.{Measure}
use Rattle.columns.specs.Columns.{Columns}
use Rattle.settle.specs.Settling.{entries_of}
use Rattle.reply.specs.Reply.{Said}
use Rattle.report.specs.Report.{list, report}
use Rattle.command.specs.Command.{price_word}
use Rattle.desk.specs.Desk.{desk_said}

-- the word alone, and the LF behind it
abbrev pub price_line : List ℕ
price_line = price_word ++ 10 ∷ []

-- "price: what `listing` prints", of every input; what a second one is does not matter
abbrev pub PricesAsListed : (input second : List ℕ) → Type 0
PricesAsListed input second = (desk_said price_line input second).bytes ≡ report input

-- the text of table t, printed by a command that changed a table into it and fed back, is listed with the answers of t
abbrev pub PricesAgain : Measure → Columns → Said → Type 0
PricesAgain m t s = report s.bytes ≡ list (entries_of m t) t.vertices
