-- The line of a text that is refused has three numbers: 14, line and column, since a column counts from 1. Document 02, 2026-06: "The program prints both as
-- the place". Assumes nothing.
use Prim.Native.Nat.{ℕ, suc, ◌≤◌, ◌<◌}
use mathlib.Core.Path.{◌≡◌, refl, sym, ◌∙◌, subst}
use mathlib.Core.List.{List, [], ◌∷◌}
use native.Mathlib.Omega.{arith}
use lib.ListN.{length, take}
use lib.Dec.{eqb}
use Rattle.weights.specs.Choice.{pick}
use Rattle.refusal.specs.declared.Refusal.TheVariants.{Text}
use Rattle.text.specs.Render.{Permitted}
use Rattle.text.specs.Permitted.{FirstWrong}
use Rattle.text.specs.Bytes.{column_from, FirstByte}
use Rattle.text.proofs.Digits.{pick_by}
use Rattle.report.specs.Report.{most_input, refused_with, refused_line, report}
use Rattle.report.proofs.Pieces.{refused_three}
use Rattle.report.proofs.Reports.{report_unpermitted}

column_from_lem : (c : ℕ) (bs : List ℕ) → 0 < c → 0 < column_from c bs
unfolding column_from
column_from_lem c [] h = h
column_from_lem c (b ∷ bs) h = column_from_lem (pick (eqb b 10) 1 (suc c)) bs (pick_by (λ (k : ℕ). 0 < k) (eqb b 10) (λ e. omega arith) (λ e. omega arith))

pub column_counts : (s : List ℕ) (l c : ℕ) → FirstByte s l c → 0 < c
column_counts s l c f = subst (λ (k : ℕ). 0 < k) (sym f.column_is) (column_from_lem 1 (take f.at s) (omega arith))

pub place_printed : (s : List ℕ) (l c : ℕ) → FirstByte s l c → refused_line (Text (record { 0 = l }) (record { 0 = c })) ≡ refused_with (14 ∷ l ∷ c ∷ [])
place_printed s l c f =
    let h = column_counts s l c f in
    refused_three (Text (record { 0 = l }) (record { 0 = c })) 14 l c refl refl refl (λ e. omega arith)

pub report_place : (input : List ℕ) → length input ≤ most_input → (Permitted input → ⊥)
    → (k c : ℕ) × (report input ≡ refused_with (14 ∷ k ∷ c ∷ [])) × FirstWrong input k × FirstByte input k c
report_place input h n =
    let u = report_unpermitted input h n in
    (u.0, u.1, u.2 ∙ place_printed input u.0 u.1 u.4, u.3, u.4)
