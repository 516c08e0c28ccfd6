-- What the listing program prints of an input: the list of a table's entries, or the line of a refusal. The paper's "A table priced whole", and 17 of "What is
-- turned away", which comes first. Assumes nothing: these are definitions.
use Rattle.std.specs.Prelude.{ℕ, zero, suc, ◌*◌, List, [], ◌∷◌, ◌++◌, length, replicate, ltb, eqb, Ok, Err}
use Rattle.weights.specs.declared.State.{State}
use Rattle.weights.specs.declared.State.TheVariants.{Made, Over, Unmade}
use Rattle.weights.specs.declared.Entry.{Entry}
use Rattle.weights.specs.Choice.{pick}
use Rattle.refusal.specs.declared.Refusal.{Refusal}
use Rattle.refusal.specs.declared.Refusal.TheVariants.{InputLength}
use Rattle.refusal.specs.Refusals.{number_of, place_of, column_of}
use Rattle.columns.specs.Columns.{Entries}
use Rattle.provenance.specs.BestFirst.{blank}
use Rattle.columns.specs.Acceptance.{most_edges, most_listed}
use Rattle.columns.specs.Owed.{Outcome}
use Rattle.settle.specs.Settling.{entry_at, settled}
use Rattle.text.specs.Render.{digits, tail_text}
use Rattle.readtable.specs.Read.{ReadOutcome, columns_read, read_table}
use Rattle.refusal.specs.Answers.{Acceptance, Reading}

-- the most bytes of an input; one more is refused by 17
abbrev pub most_input : ℕ
most_input = 65535

-- a bound on the bytes of an output (`report_fits`): the names, and 1,024 rows of 45, as if every part had four digits
abbrev pub most_output : ℕ
most_output = 46116

-- a bound on the line of a refusal: its word, and three numbers of 20 digits
abbrev pub most_refusal : ℕ
most_refusal = 71

-- The list -------------------------------------------------------------------------------------------------------------------------------------

-- `part state figure depth line pieces`
unfoldable pub names : List ℕ
names = 112 ∷ 97 ∷ 114 ∷ 116 ∷ 32 ∷ 115 ∷ 116 ∷ 97 ∷ 116 ∷ 101 ∷ 32 ∷ 102 ∷ 105 ∷ 103 ∷ 117 ∷ 114 ∷ 101 ∷ 32 ∷ 100 ∷ 101 ∷ 112 ∷ 116 ∷ 104 ∷ 32 ∷ 108 ∷ 105 ∷ 110 ∷ 101 ∷ 32 ∷ 112 ∷ 105 ∷ 101 ∷ 99 ∷ 101 ∷ 115 ∷ 10 ∷ []

-- `made`, `over`, `unmade`
unfoldable pub state_word : State → List ℕ
state_word Made = 109 ∷ 97 ∷ 100 ∷ 101 ∷ []
state_word Over = 111 ∷ 118 ∷ 101 ∷ 114 ∷ []
state_word Unmade = 117 ∷ 110 ∷ 109 ∷ 97 ∷ 100 ∷ 101 ∷ []

-- part, state, figure, depth, line and, "as a last field" (document 02, 2026-09), pieces, single spaces between and an LF
unfoldable pub row : ℕ → Entry → List ℕ
row v e =
    digits v ++ (32 ∷ state_word e.state) ++ (32 ∷ digits e.weight.0) ++ (32 ∷ digits e.depth) ++ (32 ∷ digits e.edge.0) ++ (32 ∷ digits e.pieces) ++ 10 ∷ []

-- of the parts below k
unfoldable pub rows : Entries → ℕ → List ℕ
rows a zero = []
rows a (suc k) = rows a k ++ row k (entry_at a k)

unfoldable pub list : Entries → ℕ → List ℕ
list a n = names ++ rows a n

-- A refusal --------------------------------------------------------------------------------------------------------------------------------------

-- `refused`
unfoldable pub refused_word : List ℕ
refused_word = 114 ∷ 101 ∷ 102 ∷ 117 ∷ 115 ∷ 101 ∷ 100 ∷ []

-- the word and numbers, a single space before each, and an LF
unfoldable pub refused_with : List ℕ → List ℕ
refused_with ns = refused_word ++ (tail_text ns ++ 10 ∷ [])

-- number and place; document 02, 2026-06, of 14: "The program prints both as the place", line and column, which count from 1
abbrev pub numbers_of : Refusal → List ℕ
numbers_of r = pick (eqb (column_of r) 0) (number_of r ∷ place_of r ∷ []) (number_of r ∷ place_of r ∷ column_of r ∷ [])

unfoldable pub refused_line : Refusal → List ℕ
refused_line r = refused_with (numbers_of r)

-- The whole --------------------------------------------------------------------------------------------------------------------------------------

-- by what settling a table of n parts returned
abbrev pub priced_as : (n : ℕ) → Acceptance → Entries → List ℕ
priced_as n (Ok _) a = list a n
priced_as n (Err r) a = refused_line r

abbrev pub priced : (n : ℕ) → Outcome Acceptance Entries → List ℕ
priced n o = priced_as n o.result o.left

-- answer columns of n zeros
abbrev pub blank_entries : ℕ → Entries
blank_entries n = record { labels = blank n; pieces = replicate n 0 }

-- by what reading a text returned: the table that was read is settled from answer columns of zeros
unfoldable pub listed_as : Reading → ReadOutcome → List ℕ
listed_as (Err r) x = refused_line r
listed_as (Ok g) x = priced g.vertices (settled g.measure (columns_read g x) (blank_entries g.vertices))

abbrev pub listed : ReadOutcome → List ℕ
listed x = listed_as x.answer x

-- a text, read into columns that have room for the largest table
unfoldable pub read_input : List ℕ → ReadOutcome
read_input input = read_table input (replicate most_edges 0) (replicate most_edges 0) (replicate most_edges 0) (replicate (2 * most_edges) 0) (replicate most_listed 0)

-- the bytes printed of an input
unfoldable pub report : List ℕ → List ℕ
report input = pick (ltb most_input (length input)) (refused_line InputLength) (listed (read_input input))
