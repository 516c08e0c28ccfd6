-- By what writing a table is refused. The paper's "Writing: 1 to 6, then 15", with 21 between 4 and 5 of a line (document 02, 2026-02). Assumes nothing: these are definitions.
use Rattle.std.specs.Prelude.{List, ℕ, ◌≤◌, length, Ok, Err}
use Rattle.weights.specs.declared.Measure.{Measure}
use Rattle.refusal.specs.declared.Refusal.{Refusal}
use Rattle.refusal.specs.declared.Refusal.TheVariants.{TextRoom}
use Rattle.columns.specs.Columns.{Columns}
use Rattle.columns.specs.Filled.{filled}
use Rattle.columns.specs.Owed.{Owed}
use Rattle.columns.specs.Right.{RightTable, WrongTable}
use Rattle.text.specs.Render.{render}
use Rattle.writetable.specs.Write.{WriteOutcome}

-- an accepted table whose text the room holds
pub record RightWrite (m : Measure) (c : Columns) (places : ℕ) : Type 0 where
  pub table : RightTable c
  pub room : length (render m c) ≤ places

pub data WrongWrite (m : Measure) (c : Columns) (places : ℕ) : Refusal → Type 0 where
  table : {r : Refusal} → WrongTable c r → WrongWrite m c places r
  room : RightTable c → ¬ (length (render m c) ≤ places) → WrongWrite m c places TextRoom

-- demand 1 of writing: "Writing fills the text room from its start and returns the text's length; the room behind it keeps its bytes"
abbrev pub WriteOwes : Measure → Columns → (entry : List ℕ) → WriteOutcome → Type 0
WriteOwes m c entry o =
    let text = render m c in
    let n = length entry in
    Owed Err entry (RightWrite m c n) (λ _. Ok (length text)) (λ _. filled text entry) (WrongWrite m c n) o.answer o.room
