-- Document 02, change request 2026-06. Assumes nothing.
use mathlib.Core.Path.{◌≡◌}
use mathlib.Core.List.{List, [], ◌∷◌, ◌++◌}
use Prim.Native.Nat.{ℕ, ◌≤◌, ◌+◌}
use lib.ListN.{length, get_or}
use Rattle.weights.specs.Figures.{greatest}
use Rattle.text.specs.Render.{Permitted}
use Rattle.text.specs.Permitted.{FirstWrong}
use Rattle.text.specs.Prefixes.{Begins}
use Rattle.text.specs.Bytes.{FirstByte}
use Rattle.text.proofs.Bytes.{first_byte_unique, ends_early}
use Rattle.cursor.specs.Cursor.{number_at, weight_at}
use Rattle.cursor.proofs.Counts.{token_start, weight_start}
use Rattle.reader.specs.Stops.{StopsAt}
use Rattle.reader.proofs.Stops.{token_stop}
use Rattle.readtable.specs.Read.{read_table}
use Rattle.roundtrip.specs.Refused.{refused_at}
use Rattle.roundtrip.proofs.Refused.{unpermitted_is_refused}
use Rattle.report.specs.Report.{most_input, refused_with, report}
use Rattle.report.proofs.Places.{report_place}
use Rattle.promises.proofs.Tokens.{weight_stop, struck_weight_stop}

-- 2026-06: tell the typist the column too ----------------------------------------------------------------------------------------------------------------------------

-- "The reading of one number must also report where it began and where it stopped", found or not: at the first byte that can't go on with it, or at the text's end
pub number_began : (s : List ℕ) (at limit : ℕ) → (number_at s at limit).start ≡ at
number_began = token_start

pub number_stopped : (s : List ℕ) (at limit : ℕ) → StopsAt s limit (number_at s at limit).start (number_at s at limit).stop
number_stopped = token_stop

-- so does the own figure's reading: where it has no `-` (45) it is the number's, and else the number begins directly after the `-`
module _ (s : List ℕ) (at : ℕ) where
  pub figure_began : (weight_at s at).start ≡ at
  figure_began = weight_start s at

  pub figure_stopped : ¬ (get_or s at 0 ≡ 45) → StopsAt s (greatest + 1) at (weight_at s at).stop
  figure_stopped = weight_stop s at

  pub struck_figure_stopped : get_or s at 0 ≡ 45 → StopsAt s (greatest + 1) (at + 1) (weight_at s at).stop
  struck_figure_stopped = struck_weight_stop s at

-- "Refusal 14 then returns line and column, counted from 1: that of the first byte such that no permitted text begins with the bytes up to and including it, or one past
-- the last byte if the text merely ends too early" (`FirstByte`); "Turned away: the same texts as before", at the same lines (`FirstWrong`), and every lent column is as it
-- was
pub column_told : (text h o ms s t : List ℕ) → ¬ Permitted text
    → (k c : ℕ) × (read_table text h o ms s t ≡ refused_at k c h o ms s t) × FirstWrong text k × FirstByte text k c
column_told text h o ms s t n = unpermitted_is_refused text h o ms s t n

-- this fixes both numbers, with no word of how a text is read
pub column_fixed : (s : List ℕ) {l c l' c' : ℕ} → FirstByte s l c → FirstByte s l' c' → (l ≡ l') × (c ≡ c')
column_fixed = first_byte_unique

-- "An LF counts as a byte of the line it ends": a text that merely ends too early does not end in LF, so one past its last byte is in that byte's line
pub ends_in_its_line : (s : List ℕ) → ¬ Permitted (s ++ 10 ∷ []) → ¬ Begins (s ++ 10 ∷ [])
ends_in_its_line = ends_early

-- "The program prints both as the place": `refused 14`, the line and the column
pub column_printed : (input : List ℕ) → length input ≤ most_input → ¬ Permitted input
    → (k c : ℕ) × (report input ≡ refused_with (14 ∷ k ∷ c ∷ [])) × FirstWrong input k × FirstByte input k c
column_printed = report_place
