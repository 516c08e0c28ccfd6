-- What a program in C can tell from the one number that a call gives it: below 2^32 it is an acceptance, and 0 or the bill's length; otherwise the quotient by 2^32 is the
-- refusal's number and the remainder its place. The paper's "The calls": "on a refusal the refusal's number times 4,294,967,296, plus the place". Assumes nothing: these are definitions.
use Rattle.std.specs.Prelude.{◌≡◌, ℕ, ◌/◌, ◌%◌, ◌≤◌, ◌<◌, Ok, Err}
use Rattle.weights.specs.declared.Measure.{Measure}
use Rattle.refusal.specs.declared.Refusal.{Refusal}
use Rattle.refusal.specs.Refusals.{number_of, place_of}
use Rattle.refusal.specs.Answers.{Acceptance, Extent, MeasureChoice}

-- the number names refusal r
pub record Names (r : Refusal) (n : ℕ) : Type 0 where
  pub number : n / 4_294_967_296 ≡ number_of r
  pub place : n % 4_294_967_296 ≡ place_of r
  pub least : 1 ≤ number_of r
  pub most : number_of r ≤ 27

-- the number tells the answer x: a length, which is 0 where a call returns acceptance alone, or a refusal
pub record Decoded (x : Extent) (n : ℕ) : Type 0 where
  pub accepted : (size : ℕ) → x ≡ Ok size → (n ≡ size) × (n < 4_294_967_296)
  pub below : n < 4_294_967_296 → x ≡ Ok n
  pub refused : (r : Refusal) → x ≡ Err r → Names r n

-- acceptance alone, as a length
abbrev pub extent_of : Acceptance → Extent
extent_of (Ok _) = Ok 0
extent_of (Err r) = Err r

-- what a call answers, before it is made one number: a measure's number is tested before everything
abbrev pub measured : MeasureChoice → (Measure → Extent) → Extent
measured (Err r) f = Err r
measured (Ok m) f = f m
