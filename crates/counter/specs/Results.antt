-- The three calls as a program in C gets them: one number, and the lent columns as they are left. The paper's "The calls". Assumes nothing: these are definitions.
use Rattle.std.specs.Prelude.{ℕ, List, ◌++◌, take, drop, Ok, Err}
use Rattle.refusal.specs.Refusals.{code_of, result_of, acceptance_result, extent_result}
use Rattle.columns.specs.Columns.{Entries, Columns}
use Rattle.columns.specs.Owed.{Outcome}
use Rattle.settle.specs.Settling.{settled}
use Rattle.reprice.specs.Repricing.{ChangeOutcome, repriced}
use Rattle.bill.specs.Billing.{billed}
use Rattle.refusal.specs.Answers.{Acceptance, Extent, MeasureChoice}

-- a number, and the answer columns
abbrev pub outcome_result : Outcome Acceptance Entries → Outcome ℕ Entries
outcome_result o = record { result = acceptance_result o.result; left = o.left }

-- a measure's number is tested before everything
abbrev pub settled_result : MeasureChoice → Columns → Entries → Outcome ℕ Entries
settled_result (Err r) c a = record { result = result_of (code_of r); left = a }
settled_result (Ok m) c a = outcome_result (settled m c a)

-- a number, the own figures, and the answer columns
abbrev pub change_result : ChangeOutcome Acceptance → ChangeOutcome ℕ
change_result x = record { result = acceptance_result x.result; own = x.own; left = x.left }

abbrev pub repriced_result : MeasureChoice → Columns → Entries → (e w : ℕ) → ChangeOutcome ℕ
repriced_result (Err r) c a e w = record { result = result_of (code_of r); own = c.own; left = a }
repriced_result (Ok m) c a e w = change_result (repriced m c a e w)

-- "counts room beyond 4,294,967,295 places as absent": a bill is given the places up to there, and those behind them keep what they hold
abbrev pub most_room : ℕ
most_room = 4_294_967_295

-- a number, and a room
abbrev pub bill_result : Outcome Extent (List ℕ) → (behind : List ℕ) → Outcome ℕ (List ℕ)
bill_result o behind = record { result = extent_result o.result; left = o.left ++ behind }

abbrev pub billed_result : MeasureChoice → Columns → Entries → (v : ℕ) → List ℕ → Outcome ℕ (List ℕ)
billed_result (Err r) c a v room = record { result = result_of (code_of r); left = room }
billed_result (Ok m) c a v room = bill_result (billed m c a v (take most_room room)) (drop most_room room)
