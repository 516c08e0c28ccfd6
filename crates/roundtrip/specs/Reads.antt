-- Which texts are read into five lent columns, and by what a text is refused. The paper's "Reading text: 14 at the first text line that breaks a rule …, then 15".
-- Assumes nothing: these are definitions.
use Rattle.std.specs.Prelude.{List, ℕ, Ok, Err}
use Rattle.refusal.specs.declared.Refusal.{Refusal}
use Rattle.refusal.specs.declared.Refusal.TheVariants.{Text, TextRoom}
use Rattle.columns.specs.Filled.{filled}
use Rattle.columns.specs.Owed.{Owed}
use Rattle.text.specs.Tables.{closed}
use Rattle.text.specs.Render.{Permitted}
use Rattle.text.specs.Permitted.{FirstWrong}
use Rattle.text.specs.Bytes.{FirstByte}
use Rattle.readtable.specs.Read.{ReadOutcome}
use Rattle.roundtrip.specs.RoundTrip.{Room, header_for}

-- a permitted text, and columns that have room for its table
pub record RightRead (text h o ms s t : List ℕ) : Type 0 where
  pub permitted : Permitted text
  pub room : Room (closed permitted.table) h o ms s t

-- a text that is not permitted, at the first line that breaks a rule and the first byte that can't stand in it; then a permitted one for which a column is too short
pub data WrongRead (text h o ms s t : List ℕ) : Refusal → Type 0 where
  form : (k c : ℕ) → ¬ Permitted text → FirstWrong text k → FirstByte text k c → WrongRead text h o ms s t (Text (record { 0 = k }) (record { 0 = c }))
  room : (p : Permitted text) → ¬ Room (closed p.table) h o ms s t → WrongRead text h o ms s t TextRoom

-- demand 1 of reading: "Reading returns n, the measure and the counts, and writes that many places of each column; the rest keep theirs"
abbrev pub ReadOwes : (text h o ms s t : List ℕ) → ReadOutcome → Type 0
ReadOwes text h o ms s t x =
    Owed {L = List ℕ × List ℕ × List ℕ × List ℕ × List ℕ} Err (h, o, ms, s, t) (RightRead text h o ms s t) (λ p. Ok (header_for p.permitted.measure (closed p.permitted.table)))
    (λ p. let c = closed p.permitted.table in
    (filled c.heads h, filled c.own o, filled c.strikes ms, filled c.spans s, filled c.tails t))
    (WrongRead text h o ms s t) x.answer (x.heads, x.own, x.strikes, x.spans, x.tails)
