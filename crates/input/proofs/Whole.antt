-- A list is printed only of an input that was read to its end. Assumes nothing.
use Prim.Native.Nat.{ℕ}
use mathlib.Core.Path.{◌≡◌, refl, ap}
use mathlib.Core.List.{List}
use mathlib.Core.Logic.{◌⊎◌, inl, inr}
use lib.ListN.{length}
use lib.IntN.{ℤ, pos, negsuc}
use native.Mathlib.Omega.{arith}
use Rattle.refusal.specs.declared.Refusal.TheVariants.{Text, InputLength}
use Rattle.text.specs.Render.{digits_on, digits, tail_text}
use Rattle.report.specs.Report.{refused_word, refused_with, refused_line, report}
use Rattle.report.proofs.Reports.{report_long}
use Rattle.report.proofs.Examples.{empty_refused}
use Rattle.input.specs.Input.{buffer_length, Ended}
use Rattle.input.specs.Printed.{printed}

-- whatever was read before the failure
pub failed_refused : (input : List ℕ) (k : ℕ) → printed input (negsuc k) ≡ refused_line (Text (record { 0 = 1 }) (record { 0 = 1 }))
unfolding digits_on digits tail_text refused_word refused_with refused_line
failed_refused input k = empty_refused

-- a full buffer is refused by 17
pub full_refused : (input : List ℕ) (k : ℕ) → length input ≡ buffer_length → printed input (pos k) ≡ refused_line InputLength
full_refused input k e = report_long input (omega arith)

-- so a list is printed only of an input that was read to its end
pub whole_reported : (input : List ℕ) (last : ℤ) → Ended (length input) last
    → (printed input last ≡ refused_line (Text (record { 0 = 1 }) (record { 0 = 1 }))) ⊎ ((printed input last ≡ refused_line InputLength) ⊎ ((last ≡ pos 0) × (printed input last ≡ report input)))
whole_reported input (negsuc k) e = inl (failed_refused input k)
whole_reported input (pos k) (inl z) = inr (inr (ap pos z, refl))
whole_reported input (pos k) (inr f) = inr (inl (full_refused input k f))
