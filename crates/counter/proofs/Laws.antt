-- The laws by which the exports go: by the measure's number, and of a room of which the first places are counted. Assumes nothing.
use mathlib.Core.Path.{◌≡◌, ◌∙◌, ap, ap₂}
use mathlib.Core.List.{List, [], ◌∷◌, ◌++◌}
use Prim.Native.Nat.{ℕ, zero, suc, min}
use native.Mathlib.Nat.{zero-min, min-zero, suc-min-suc}
use lib.ListN.{length, take, drop}
use Rattle.weights.specs.declared.Measure.{Measure}
use Rattle.refusal.specs.declared.Refusal.{Refusal}
use Rattle.refusal.specs.Refusals.{code_of, result_of, acceptance_result, extent_result}
use Rattle.columns.specs.Columns.{Entries, Columns}
use Rattle.settle.specs.Settling.{settled}
use Rattle.reprice.specs.Repricing.{repriced}
use Rattle.bill.specs.Billing.{billed}
use Rattle.counter.specs.Results.{outcome_result, settled_result, change_result, repriced_result, most_room, bill_result, billed_result}
use Rattle.refusal.specs.Answers.{Acceptance, Extent, MeasureChoice}
use Rattle.std.specs.Prelude.{Ok, Err}

-- a part never asks for more places than there are
take_min : (k : ℕ) (xs : List ℕ) → take (min k (length xs)) xs ≡ take k xs
take_min zero xs = rw (zero-min (length xs))
take_min (suc k) [] = rw (min-zero (suc k))
take_min (suc k) (x ∷ xs) = rw (suc-min-suc k (length xs)) (ap (λ (ys : List ℕ). x ∷ ys) (take_min k xs))

drop_min : (k : ℕ) (xs : List ℕ) → drop (min k (length xs)) xs ≡ drop k xs
drop_min zero xs = rw (zero-min (length xs))
drop_min (suc k) [] = rw (min-zero (suc k))
drop_min (suc k) (x ∷ xs) = rw (suc-min-suc k (length xs)) (drop_min k xs)

module _ {o : MeasureChoice} (c : Columns) (a : Entries) {n : ℕ} where
  pub settled_refused : {r : Refusal} → o ≡ Err r → n ≡ result_of (code_of r) → record { result = n; left = a } ≡ settled_result o c a
  settled_refused p q = rw (p, q)

  pub settled_measure : {m : Measure} {x : Acceptance} {b : Entries} → o ≡ Ok m → n ≡ acceptance_result x → record { result = x; left = b } ≡ settled m c a
      → record { result = n; left = b } ≡ settled_result o c a
  settled_measure {m} {x} {b} p q e = rw (p, q) (ap outcome_result e)

  -- of line e and figure w
  module _ (e w : ℕ) where
    pub repriced_refused : {r : Refusal} → o ≡ Err r → n ≡ result_of (code_of r) → record { result = n; own = c.own; left = a } ≡ repriced_result o c a e w
    repriced_refused p q = rw (p, q)

    pub repriced_measure : {m : Measure} {x : Acceptance} {os : List ℕ} {b : Entries} → o ≡ Ok m → n ≡ acceptance_result x
        → record { result = x; own = os; left = b } ≡ repriced m c a e w → record { result = n; own = os; left = b } ≡ repriced_result o c a e w
    repriced_measure p q k = rw (p, q) (ap change_result k)

  -- of part v
  module _ (v : ℕ) (room : List ℕ) where
    pub billed_refused : {r : Refusal} → o ≡ Err r → n ≡ result_of (code_of r) → record { result = n; left = room } ≡ billed_result o c a v room
    billed_refused p q = rw (p, q)

    pub billed_measure : {m : Measure} {x : Extent} {places : ℕ} {left : List ℕ} → o ≡ Ok m → n ≡ extent_result x → places ≡ min most_room (length room)
        → record { result = x; left = left } ≡ billed m c a v (take places room) → record { result = n; left = left ++ drop places room } ≡ billed_result o c a v room
    billed_measure {m} {x} {places} {left} p q k e =
        rw (p, q)
        (ap₂
        bill_result
        (e ∙ ap (billed m c a v) (ap (λ (j : ℕ). take j room) k ∙ take_min most_room room))
        (ap (λ (j : ℕ). drop j room) k ∙ drop_min most_room room))
