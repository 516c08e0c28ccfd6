-- The record of the stock clerk as a text, and how it is read: the opening counts of the parts from 0 on, then a line for each event, its part and 0 for an order, else
-- the pieces of a receipt:
--   record = "stock" { " " number } LF { number " " number LF }
-- Numbers are written as a table's text writes them. Assumes nothing: these are definitions.
use Rattle.std.specs.Prelude.{ℕ, zero, suc, ◌+◌, ◌-◌, List, [], ◌∷◌, length, get_or, set, eqb, leb, Result, Ok, Err, Option, Some, None}
use Rattle.weights.specs.Choice.{pick}
use Rattle.refusal.specs.declared.Refusal.{Refusal}
use Rattle.refusal.specs.declared.Refusal.TheVariants.{Text}
use Rattle.cursor.specs.declared.Separator.{Separator}
use Rattle.cursor.specs.declared.Separator.TheVariants as separator
use Rattle.cursor.specs.Cursor.{number_at, separator_at}
use Rattle.reading.specs.Lines.{agreeing}
use Rattle.ledger.specs.declared.Next.{Next}
use Rattle.ledger.specs.declared.Next.TheVariants as next
use Rattle.ledger.specs.declared.EventLine.{EventLine}
use Rattle.ledger.specs.declared.EventLine.TheVariants as line

-- the least number that none is: it has nineteen digits; and the most opening counts
abbrev pub number_limit : ℕ
number_limit = 1_000_000_000_000_000_000

abbrev pub most_shelf : ℕ
most_shelf = 1024

-- `stock`
abbrev pub stock_word : List ℕ
stock_word = 115 ∷ 116 ∷ 111 ∷ 99 ∷ 107 ∷ []

-- 14, with the column of a byte of a text line that starts at `at`
abbrev pub wrong_at : (line at place : ℕ) → Refusal
wrong_at l at place = Text (record { 0 = l }) (record { 0 = place - at + 1 })

-- Behind a word or a number --------------------------------------------------------------------------------------------------------------------

-- a number and the place behind it, or where its reading stopped
abbrev pub as_next : (stop : ℕ) → (Option ℕ) → Next
as_next stop (Some v) = next.Number v stop
as_next stop None = next.Wrong stop

unfoldable pub found_number : List ℕ → ℕ → Next
found_number s at = as_next (number_at s at number_limit).stop (number_at s at number_limit).found

-- by the separator: a number behind a single space, or the line's end
abbrev pub on_separator : List ℕ → (at : ℕ) → Separator → Next
on_separator s at (separator.Space i) = found_number s i
on_separator s at (separator.LineEnd i) = next.End i
on_separator s at separator.Neither = next.Wrong at

unfoldable pub next_at : List ℕ → ℕ → Next
next_at s at = on_separator s at (separator_at s at)

-- The opening counts ---------------------------------------------------------------------------------------------------------------------------

-- how many came and where the next line starts, or where a byte can't stand; and the column that they were put into
pub record Gathered : Type 0 where
  pub counts : Result (ℕ × ℕ) ℕ
  pub column : List ℕ

abbrev pub gathered : Result (ℕ × ℕ) ℕ → List ℕ → Gathered
gathered n c = record { counts = n; column = c }

abbrev pub on_next : Next → (i : ℕ) → List ℕ → ((v stop : ℕ) → Gathered) → Gathered
on_next (next.End l) i c more = gathered (Ok (i, l)) c
on_next (next.Wrong p) i c more = gathered (Err p) c
on_next (next.Number v stop) i c more = more v stop

-- behind a full column only the line's end can stand: a count that is one too many is wrong at the space before it
abbrev pub on_full : (at i : ℕ) → Separator → Result (ℕ × ℕ) ℕ
on_full at i (separator.Space j) = Err at
on_full at i (separator.LineEnd j) = Ok (i, j)
on_full at i separator.Neither = Err at

-- at most `left` more counts stand from a place on; i stand already in the column
unfoldable pub counts_from : (left : ℕ) → List ℕ → (at i : ℕ) → List ℕ → Gathered
counts_from zero s at i c = gathered (on_full at i (separator_at s at)) c
counts_from (suc left) s at i c = on_next (next_at s at) i c (λ v stop. counts_from left s stop (i + 1) (set c i v))

-- the first line: `stock`, and the counts behind it
unfoldable pub shelf_in : List ℕ → (column : List ℕ) → Gathered
shelf_in s c = pick (eqb (agreeing stock_word s) 5) (counts_from (length c) s 5 0 c) (gathered (Err (agreeing stock_word s)) c)

-- The events -----------------------------------------------------------------------------------------------------------------------------------

-- behind a part: a number, and an LF behind that
abbrev pub on_pieces : List ℕ → (part at : ℕ) → Next → EventLine
on_pieces s v at (next.End l) = line.Wrong at
on_pieces s v at (next.Wrong p) = line.Wrong p
on_pieces s v at (next.Number k stop) = pick (eqb (get_or s stop 0) 10) (line.Event v k (stop + 1)) (line.Wrong stop)

unfoldable pub pieces_at : List ℕ → (part at : ℕ) → EventLine
pieces_at s v at = on_pieces s v at (next_at s at)

abbrev pub on_part : List ℕ → (stop : ℕ) → (Option ℕ) → EventLine
on_part s stop (Some v) = pieces_at s v stop
on_part s stop None = line.Wrong stop

-- what stands at the start of a line: nothing more, or an event
unfoldable pub event_at : List ℕ → ℕ → EventLine
event_at s at = pick (leb (length s) at) line.End (on_part s (number_at s at number_limit).stop (number_at s at number_limit).found)

-- how many came, or the refusal; and the columns that they were put into
pub record Listed : Type 0 where
  pub events : Result ℕ Refusal
  pub parts : List ℕ
  pub received : List ℕ

abbrev pub listed : Result ℕ Refusal → (parts received : List ℕ) → Listed
listed x vs ks = record { events = x; parts = vs; received = ks }

-- event i, from 0, has the text line i + 2: the counts have the first
abbrev pub on_event : EventLine → (at i : ℕ) → (parts received : List ℕ) → ((v k next : ℕ) → Listed) → Listed
on_event line.End at i vs ks more = listed (Ok i) vs ks
on_event (line.Wrong p) at i vs ks more = listed (Err (wrong_at (i + 2) at p)) vs ks
on_event (line.Event v k l) at i vs ks more = more v k l

-- `left` places of the columns are free, and event i starts at `at`; one that is too many is wrong at its first byte
unfoldable pub events_from : (left : ℕ) → List ℕ → (at i : ℕ) → (parts received : List ℕ) → Listed
events_from zero s at i vs ks = listed (pick (leb (length s) at) (Ok i) (Err (wrong_at (i + 2) at at))) vs ks
events_from (suc left) s at i vs ks = on_event (event_at s at) at i vs ks (λ v k l. events_from left s l (i + 1) (set vs i v) (set ks i k))

-- The record -----------------------------------------------------------------------------------------------------------------------------------

-- how many counts and events came, or the refusal; and the columns that they were put into
pub record Entered : Type 0 where
  pub result : Result (ℕ × ℕ) Refusal
  pub shelf : List ℕ
  pub parts : List ℕ
  pub received : List ℕ

abbrev pub entered : Result (ℕ × ℕ) Refusal → (shelf parts received : List ℕ) → Entered
entered x c vs ks = record { result = x; shelf = c; parts = vs; received = ks }

abbrev pub with_counts : ℕ → Result ℕ Refusal → Result (ℕ × ℕ) Refusal
with_counts k (Ok e) = Ok (k, e)
with_counts k (Err r) = Err r

abbrev pub on_events : (k : ℕ) → (shelf : List ℕ) → Listed → Entered
on_events k c x = entered (with_counts k x.events) c x.parts x.received

abbrev pub on_counts : List ℕ → Result (ℕ × ℕ) ℕ → (shelf parts received : List ℕ) → Entered
on_counts s (Err p) c vs ks = entered (Err (wrong_at 1 0 p)) c vs ks
on_counts s (Ok (k, at)) c vs ks = on_events k c (events_from (length vs) s at 0 vs ks)

-- the record of a text, put into columns
unfoldable pub read_record : List ℕ → (shelf parts received : List ℕ) → Entered
read_record s c vs ks = let x = shelf_in s c in on_counts s x.counts x.column vs ks
