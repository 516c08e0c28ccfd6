-- What writing a table into lent room returns, and what it leaves there. The paper's "The text" ("Writing fills the text room from its start and returns the
-- text's length; the room behind it keeps its bytes") and, of "What is turned away", "Writing: 1 to 6, then 15", with 21 between 4 and 5. Assumes nothing: these are definitions.
use Rattle.std.specs.Prelude.{ℕ, ◌≤◌, ◌≡◌, List, length, leb, Ok, Err}
use Rattle.weights.specs.declared.Measure.{Measure}
use Rattle.weights.specs.Choice.{pick}
use Rattle.refusal.specs.declared.Refusal.TheVariants.{TextRoom}
use Rattle.columns.specs.Columns.{Columns}
use Rattle.columns.specs.Acceptance.{acceptance}
use Rattle.text.specs.Render.{render}
use Rattle.columns.specs.Filled.{filled}
use Rattle.refusal.specs.Answers.{Acceptance, Extent}

-- the answer, and the room at exit
pub record WriteOutcome : Type 0 where
  pub answer : Extent
  pub room : List ℕ

abbrev pub write_outcome : Extent → List ℕ → WriteOutcome
write_outcome r room = record { answer = r; room = room }

-- 15, or the text
unfoldable pub write_text : (text room : List ℕ) → WriteOutcome
write_text text room = pick (leb (length text) (length room)) (write_outcome (Ok (length text)) (filled text room)) (write_outcome (Err TextRoom) room)

-- by whether the table is accepted
abbrev pub write_as : Acceptance → (text room : List ℕ) → WriteOutcome
write_as (Ok _) text room = write_text text room
write_as (Err r) text room = write_outcome (Err r) room

abbrev pub write_table : Measure → Columns → List ℕ → WriteOutcome
write_table m c room = write_as (acceptance c) (render m c) room

-- an accepted table whose text the room holds
pub record Writable (m : Measure) (c : Columns) (room : ℕ) : Type 0 where
  pub accepted : acceptance c ≡ Ok tt
  pub fits : length (render m c) ≤ room
