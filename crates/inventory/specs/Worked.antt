-- Request 2026-12 on the table of the paper's "A table priced whole", on a table with an unmade part, and refused records of each kind. Assumes nothing: these are definitions.
use Rattle.std.specs.Prelude.{◌≡◌, List, [], ◌∷◌, ℕ, Ok, Err}
use Rattle.weights.specs.declared.Measure.TheVariants.{Cost}
use Rattle.refusal.specs.declared.Refusal.{Refusal}
use Rattle.refusal.specs.declared.Refusal.TheVariants.{EventVertex, OpeningCount, ReceivedCount}
use Rattle.columns.specs.Columns.{Columns, columns}
use Rattle.columns.specs.Worked.{worked}
use Rattle.settle.specs.Settling.{entries_of}
use Rattle.inventory.specs.Replaying.{ReplayOutcome, replayed}

-- a record on a settled table
abbrev pub recorded : Columns → (parts received stock outcomes : List ℕ) → ReplayOutcome
recorded c parts received stock outcomes = replayed Cost c (entries_of Cost c) parts received stock outcomes

abbrev pub leaves : (stock outcomes : List ℕ) → ReplayOutcome
leaves s o = record { result = Ok tt; stock = s; outcomes = o }

abbrev pub keeps : Refusal → (stock outcomes : List ℕ) → ReplayOutcome
keeps r s o = record { result = Err r; stock = s; outcomes = o }

--   0 5 1
--   1 5
-- and a part that no line yields
abbrev pub lacking : Columns
lacking = columns 3 (0 ∷ 1 ∷ []) (5 ∷ 5 ∷ []) (0 ∷ 0 ∷ []) (0 ∷ 1 ∷ 1 ∷ 0 ∷ []) (1 ∷ [])

pub record Worked : Type 0 where
  pub whole :
      recorded worked (2 ∷ 2 ∷ 2 ∷ 3 ∷ 4 ∷ 4 ∷ 0 ∷ []) (0 ∷ 0 ∷ 1 ∷ 0 ∷ 0 ∷ 0 ∷ 0 ∷ []) (1 ∷ 3 ∷ 0 ∷ 0 ∷ 1 ∷ []) (9 ∷ 9 ∷ 9 ∷ 9 ∷ 9 ∷ 9 ∷ 9 ∷ [])
      ≡ leaves (0 ∷ 0 ∷ 0 ∷ 0 ∷ 0 ∷ []) (2 ∷ 3 ∷ 0 ∷ 2 ∷ 1 ∷ 3 ∷ 3 ∷ [])
  pub unmade : recorded lacking (2 ∷ []) (0 ∷ []) (0 ∷ 1 ∷ 0 ∷ []) (9 ∷ []) ≡ leaves (0 ∷ 1 ∷ 0 ∷ []) (3 ∷ [])
  pub empty : recorded lacking [] [] (7 ∷ 8 ∷ 9 ∷ []) [] ≡ leaves (7 ∷ 8 ∷ 9 ∷ []) []
  pub full : recorded lacking (1 ∷ []) (1_000_000 ∷ []) (0 ∷ 0 ∷ 0 ∷ []) (9 ∷ []) ≡ leaves (0 ∷ 1_000_000 ∷ 0 ∷ []) (0 ∷ [])
  pub opening : recorded lacking (3 ∷ []) (0 ∷ []) (0 ∷ 1_000_001 ∷ 0 ∷ []) (9 ∷ []) ≡ keeps (OpeningCount (record { 0 = 1 })) (0 ∷ 1_000_001 ∷ 0 ∷ []) (9 ∷ [])
  pub vertex : recorded lacking (1 ∷ 3 ∷ []) (0 ∷ 2_000_000 ∷ []) (0 ∷ 1 ∷ 0 ∷ []) (9 ∷ 9 ∷ []) ≡ keeps (EventVertex (record { 0 = 1 })) (0 ∷ 1 ∷ 0 ∷ []) (9 ∷ 9 ∷ [])
  pub receipt : recorded lacking (1 ∷ 1 ∷ []) (999_999 ∷ 1 ∷ []) (0 ∷ 1 ∷ 0 ∷ []) (9 ∷ 9 ∷ []) ≡ keeps (ReceivedCount (record { 0 = 1 })) (0 ∷ 1 ∷ 0 ∷ []) (9 ∷ 9 ∷ [])
