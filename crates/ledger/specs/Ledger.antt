-- What is said of a record: "the outcome of each event, then the final counts", a row for each event and last a line that can open the next record.
-- Assumes nothing: these are definitions.
use Rattle.std.specs.Prelude.{ℕ, List, [], ◌∷◌, ◌++◌, length, take, replicate, eqb, ltb, Result, Ok, Err}
use Rattle.weights.specs.declared.Measure.{Measure}
use Rattle.weights.specs.Choice.{pick}
use Rattle.refusal.specs.declared.Refusal.{Refusal}
use Rattle.refusal.specs.declared.Refusal.TheVariants.{InputLength}
use Rattle.columns.specs.Columns.{Entries, Columns}
use Rattle.inventory.specs.Shelf.{most_events}
use Rattle.inventory.specs.Replaying.{ReplayOutcome, replayed}
use Rattle.text.specs.Render.{digits, tail_text}
use Rattle.report.specs.Report.{most_input}
use Rattle.reply.specs.Reply.{Said, answered, second_refused, on_second}
use Rattle.ledger.specs.Record.{most_shelf, stock_word, Entered, read_record}

-- bounds on the bytes of a word with its space and LF, of a row with a number of 20 digits, and of a line of 1,024 such counts
abbrev pub most_outcome : ℕ
most_outcome = 10

abbrev pub most_row : ℕ
most_row = 30

abbrev pub most_stock_line : ℕ
most_stock_line = 21510

-- `received`, `issued`, `built`, `late`
unfoldable pub outcome_word : ℕ → List ℕ
outcome_word o =
    pick (eqb o 0) (114 ∷ 101 ∷ 99 ∷ 101 ∷ 105 ∷ 118 ∷ 101 ∷ 100 ∷ [])
    (pick (eqb o 1) (105 ∷ 115 ∷ 115 ∷ 117 ∷ 101 ∷ 100 ∷ [])
    (pick (eqb o 2) (98 ∷ 117 ∷ 105 ∷ 108 ∷ 116 ∷ [])
    (108 ∷ 97 ∷ 116 ∷ 101 ∷ [])))

-- behind the part: the word, and the end of the row
abbrev pub outcome_text : ℕ → List ℕ
outcome_text o = (32 ∷ outcome_word o) ++ 10 ∷ []

-- part, outcome
unfoldable pub outcome_row : (v o : ℕ) → List ℕ
outcome_row v o = digits v ++ (32 ∷ outcome_word o) ++ 10 ∷ []

-- those of events, one behind the other
unfoldable pub outcome_rows : (parts outcomes : List ℕ) → List ℕ
outcome_rows [] os = []
outcome_rows (v ∷ vs) [] = []
outcome_rows (v ∷ vs) (o ∷ os) = outcome_row v o ++ outcome_rows vs os

-- the counts, as they open a record
unfoldable pub stock_line : List ℕ → List ℕ
stock_line s = stock_word ++ (tail_text s ++ 10 ∷ [])

unfoldable pub ledger : (parts outcomes stock : List ℕ) → List ℕ
ledger vs os s = outcome_rows vs os ++ stock_line s

-- by what the call returned, and the columns as it left them
abbrev pub said_of : (parts : List ℕ) → ReplayOutcome → Said
said_of vs o = on_second o.result (answered (ledger vs o.outcomes o.stock))

unfoldable pub replayed_said : Measure → Columns → Entries → (parts received stock outcomes : List ℕ) → Said
replayed_said m c a vs ks s os = said_of vs (replayed m c a vs ks s os)

-- a column for the outcomes of e events
abbrev pub blanks : ℕ → List ℕ
blanks e = take e (replicate most_events 0)

-- by what reading the text returned, and the columns as it left them
abbrev pub on_read : Measure → Columns → Entries → Result (ℕ × ℕ) Refusal → (shelf parts received : List ℕ) → Said
on_read m c a (Err r) s vs ks = second_refused r
on_read m c a (Ok (k, e)) s vs ks = replayed_said m c a (take e vs) (take e ks) (take k s) (blanks e)

abbrev pub entered_said : Measure → Columns → Entries → Entered → Said
entered_said m c a x = on_read m c a x.result x.shelf x.parts x.received

unfoldable pub replay_said : Measure → Columns → Entries → (second : List ℕ) → Said
replay_said m c a s =
    pick (ltb most_input (length s)) (second_refused InputLength) (entered_said m c a (read_record s (replicate most_shelf 0) (replicate most_events 0) (replicate most_events 0)))
