-- What is said of a record, in the request's words. A record is written as a text that is read back as it is; where it can be replayed, the outcomes and the final counts
-- are printed, else the line of the refusal; and what is said of any text fits the room of a reply. By what a text that is no record's is refused is said by
-- `read_record` alone. Assumes nothing: these are definitions.
use Rattle.std.specs.Prelude.{◌≡◌, true, List, [], ◌∷◌, ◌++◌, ℕ, ◌≤◌, ◌<◌, length, take, replicate, Ok}
use Rattle.weights.specs.declared.Measure.{Measure}
use Rattle.refusal.specs.declared.Refusal.{Refusal}
use Rattle.refusal.specs.declared.Refusal.TheVariants.{InputLength}
use Rattle.columns.specs.Columns.{Entries, Columns}
use Rattle.columns.specs.Acceptance.{all_below}
use Rattle.inventory.specs.Shelf.{most_events}
use Rattle.inventory.specs.Asked.{RightReplay, WrongReplay}
use Rattle.text.specs.Render.{digits}
use Rattle.report.specs.Report.{most_input}
use Rattle.reply.specs.Reply.{most_reply, answered, second_refused}
use Rattle.ledger.specs.Record.{number_limit, most_shelf, Entered, read_record}
use Rattle.ledger.specs.Ledger.{stock_line, ledger, blanks, replay_said}

-- "a line for each event: its part, and 0 for an order, else the pieces of a receipt"
unfoldable pub event_line : (v k : ℕ) → List ℕ
event_line v k = digits v ++ (32 ∷ digits k) ++ 10 ∷ []

unfoldable pub event_lines : (parts received : List ℕ) → List ℕ
event_lines [] ks = []
event_lines (v ∷ vs) [] = []
event_lines (v ∷ vs) (k ∷ ks) = event_line v k ++ event_lines vs ks

-- the bytes of a record: its opening counts and its events
unfoldable pub record_text : (shelf parts received : List ℕ) → List ℕ
record_text shelf vs ks = stock_line shelf ++ event_lines vs ks

-- a record that can be written so
pub record Writable (shelf vs ks : List ℕ) : Type 0 where
  pub counts : length shelf ≤ most_shelf
  pub events : length vs ≤ most_events
  pub level : length ks ≡ length vs
  pub counts_below : all_below number_limit shelf ≡ true
  pub parts_below : all_below number_limit vs ≡ true
  pub pieces_below : all_below number_limit ks ≡ true

-- what was read is this record
pub record ReadsBack (shelf vs ks : List ℕ) (x : Entered) : Type 0 where
  pub result : x.result ≡ Ok (length shelf, length vs)
  pub counts : take (length shelf) x.shelf ≡ shelf
  pub parts : take (length vs) x.parts ≡ vs
  pub received : take (length vs) x.received ≡ ks

abbrev pub ReadBack : (shelf vs ks : List ℕ) → Type 0
ReadBack shelf vs ks = ReadsBack shelf vs ks (read_record (record_text shelf vs ks) (replicate most_shelf 0) (replicate most_events 0) (replicate most_events 0))

pub record RecordSaid (m : Measure) (c : Columns) (a : Entries) : Type 0 where
  pub printed : (shelf vs ks : List ℕ) → Writable shelf vs ks → length (record_text shelf vs ks) ≤ most_input → (p : RightReplay m c a vs ks shelf (blanks (length vs)))
      → replay_said m c a (record_text shelf vs ks) ≡ answered (ledger vs p.outcomes p.final)
  pub refused : (shelf vs ks : List ℕ) → Writable shelf vs ks → length (record_text shelf vs ks) ≤ most_input → (r : Refusal) → WrongReplay m c a vs ks shelf (blanks (length vs)) r
      → replay_said m c a (record_text shelf vs ks) ≡ second_refused r
  pub long : (second : List ℕ) → most_input < length second → replay_said m c a second ≡ second_refused InputLength
  pub fits : (second : List ℕ) → length (replay_said m c a second).bytes ≤ most_reply
