-- Document 02, change request 2026-07. Assumes nothing.
use mathlib.Core.Path.{◌≡◌, refl}
use mathlib.Core.List.{List, [], ◌∷◌, ◌++◌}
use Prim.Native.Nat.{ℕ}
use Rattle.weights.specs.declared.Measure.{Measure}
use Rattle.weights.specs.declared.Measure.TheVariants.{Cost, Days}
use Rattle.refusal.specs.declared.Refusal.TheVariants.{Text}
use Rattle.text.specs.Tables.{Table, listed_in_all}
use Rattle.text.specs.Render.{digits, word, first_word, measure_text, header, Permitted}
use Rattle.text.specs.Worked.{cost_text}
use Rattle.text.specs.Machine.{limit, line_at, digit_of, grown, instead, after, spell, named, ended, step, run, Whole, finish, parse}
use Rattle.text.specs.Bytes.{survived, column_from, column_of, FirstByte}
use Rattle.text.proofs.Permitted.{wrong_unpermitted}
use Rattle.text.proofs.Bytes.{wrong_byte}
use Rattle.readtable.specs.Read.{room_for, read_into, read_table}
use Rattle.report.specs.Report.{report}
use Rattle.report.specs.Examples.{cost_list}
use Rattle.report.proofs.Examples.{worked_cost}
use Rattle.std.specs.Prelude.{Ok, Err}

-- 2026-07: days without saying so ------------------------------------------------------------------------------------------------------------------------------------

abbrev five_unnamed : List ℕ
five_unnamed = 112 ∷ 97 ∷ 114 ∷ 116 ∷ 115 ∷ 32 ∷ 53 ∷ 10 ∷ []

abbrev five_cost : List ℕ
five_cost = 112 ∷ 97 ∷ 114 ∷ 116 ∷ 115 ∷ 32 ∷ 53 ∷ 32 ∷ 99 ∷ 111 ∷ 115 ∷ 116 ∷ 10 ∷ []

abbrev five_days : List ℕ
five_days = 112 ∷ 97 ∷ 114 ∷ 116 ∷ 115 ∷ 32 ∷ 53 ∷ 32 ∷ 100 ∷ 97 ∷ 121 ∷ 115 ∷ 10 ∷ []

-- five parts and no line, in a measure
abbrev five : Measure → Table
five m = record { vertices = 5; measure = m; edges = [] }

-- "`parts 5` shall mean days": as the machine reads it, and what the call returns
pub five_in_days : parse five_unnamed ≡ Whole (five Days)
unfolding first_word listed_in_all limit line_at digit_of grown instead after spell named ended step run finish parse
five_in_days = refl

pub days_returned : (read_table five_unnamed [] [] [] [] []).answer ≡ Ok (record { vertices = 5; measure = Days; edges = 0; listed = 0 })
unfolding first_word listed_in_all limit line_at digit_of grown instead after spell named ended step run finish parse room_for read_into
days_returned = refl

-- "`parts 5 cost` means cost"
pub five_in_cost : parse five_cost ≡ Whole (five Cost)
unfolding first_word listed_in_all limit line_at digit_of grown instead after spell named ended step run finish parse
five_in_cost = refl

pub cost_returned : (read_table five_cost [] [] [] [] []).answer ≡ Ok (record { vertices = 5; measure = Cost; edges = 0; listed = 0 })
unfolding first_word listed_in_all limit line_at digit_of grown instead after spell named ended step run finish parse room_for read_into
cost_returned = refl

-- "and `parts 5 days` is refused": "14 also for `days` written out", at its `d`
pub days_unnamed : ¬ Permitted five_days
unfolding first_word limit line_at digit_of grown spell named ended step run finish parse
days_unnamed = wrong_unpermitted five_days 1 refl

pub days_refused_at : FirstByte five_days 1 9
unfolding column_of column_from survived first_word limit line_at digit_of grown spell named ended step run finish parse
days_refused_at = wrong_byte five_days 1 refl

pub days_refused : (read_table five_days [] [] [] [] []).answer ≡ Err (Text (record { 0 = 1 }) (record { 0 = 9 }))
unfolding column_of column_from survived first_word limit line_at digit_of grown spell named ended step run finish parse read_into
days_refused = refl

-- "The writer … must change with it": the first line of n parts, in days and in cost
pub days_written : (n : ℕ) → header n Days ≡ (first_word ++ digits n) ++ 10 ∷ []
unfolding header measure_text word
days_written n = refl

pub cost_written : (n : ℕ) → header n Cost ≡ (first_word ++ digits n) ++ 32 ∷ 99 ∷ 111 ∷ 115 ∷ 116 ∷ 10 ∷ []
unfolding header measure_text word
cost_written n = refl

-- "the example gains the word `cost` and prints the same list"
pub example_prints : report cost_text ≡ cost_list
example_prints = worked_cost

-- "Reading and writing are again shown to undo each other": `read_after_write` and `write_after_read` (roundtrip/proofs/RoundTrip), of every measure
