-- Document 02, change request 2026-10. Assumes nothing.
use mathlib.Core.Path.{◌≡◌, refl}
use mathlib.Core.Bool.{Bool}
use mathlib.Core.List.{List, [], ◌∷◌, ◌++◌}
use Prim.Native.Nat.{ℕ, ◌<◌, min, ◌+◌, ◌≤◌}
use native.Mathlib.Omega.{arith}
use borrow.Author.Tests.{ne_eqb}
use Rattle.weights.specs.declared.Measure.TheVariants.{Grade}
use Rattle.weights.specs.declared.State.TheVariants.{Made}
use Rattle.weights.specs.Measures.{grade, fold}
use Rattle.weights.specs.Laws.{Ordered}
use Rattle.weights.proofs.Laws.{reversed}
use Rattle.weights.proofs.Weighing.{weigh-grade}
use Rattle.refusal.specs.declared.Refusal.TheVariants.{MeasureNumber}
use Rattle.refusal.specs.Refusals.{measure_of}
use Rattle.provenance.specs.Hypergraph.{Stands, Derivations, node, weight, weights}
use Rattle.provenance.specs.Means.{Means}
use Rattle.provenance.specs.BestFirst.{labels}
use Rattle.provenance.specs.Sensitivity.{DaysRise}
use Rattle.columns.specs.Columns.{Entries, Columns, own_at}
use Rattle.columns.specs.Acceptance.{acceptance}
use Rattle.columns.proofs.Accepted.{table_accepted}
use Rattle.tables.specs.Table.{hypergraph}
use Rattle.settle.specs.Settling.{settled}
use Rattle.settle.specs.Worth.{GreatestGrade, NeverOver}
use Rattle.settle.proofs.Demands.{demand_2}
use Rattle.settle.proofs.Worth.{grade-greatest, grade-low}
use Rattle.reprice.specs.Demand3.{labels_of, state_in, Pair}
use Rattle.bill.proofs.Rises.{demand_3_billed}
use Rattle.text.specs.Tables.{listed_in_all}
use Rattle.text.specs.Render.{digits, word, first_word, measure_text, header}
use Rattle.text.specs.Worked.{grade_text}
use Rattle.text.specs.Machine.{limit, line_at, digit_of, grown, instead, after, spell, named, ended, step, run, Whole, finish, parse}
use Rattle.text.specs.Bytes.{survived, column_from, column_of, FirstByte}
use Rattle.text.proofs.Bytes.{wrong_byte}
use Rattle.readtable.specs.Read.{room_for, read_into, read_table}
use Rattle.report.specs.Report.{report}
use Rattle.report.specs.Examples.{grade_list}
use Rattle.report.proofs.Examples.{worked_grade}
use Rattle.promises.specs.Figures.{figure_in}
use Rattle.std.specs.Prelude.{Ok, Err}

-- 2026-10: the kit is as good as its weakest part --------------------------------------------------------------------------------------------------------------------

-- "The grade of a line is the least of its own figure and its parts' grades": of a make-up of an accepted table; without parts, its own figure
pub grade_of_a_line : (c : Columns) → acceptance c ≡ Ok tt → {v : ℕ} (e : ℕ) (s : Stands (hypergraph c) e) (h : (hypergraph c).head e ≡ v) (ds : Derivations (hypergraph c) ((hypergraph c).tail e))
    → weight grade (own_at c) (node e s h ds) ≡ fold min (own_at c e) (weights grade (own_at c) ds)
unfolding weight
grade_of_a_line c p e s h ds = weigh-grade (own_at c e) (weights grade (own_at c) ds) ((table_accepted c p).each e s.numbered).1.own

module _ (c : Columns) (a : Entries) (h : (settled Grade c a).result ≡ Ok tt) (v : ℕ) where
  -- "and a part's best is the greatest over its make-ups"; "In demand 2 none then weighs more"
  pub greatest_of_make_ups : GreatestGrade c (labels (settled Grade c a).left.labels v) v
  greatest_of_make_ups = grade-greatest c a h v

  -- "Thrifty, depth and chosen line read as before"
  pub grade_means : Means grade (hypergraph c) (own_at c) (labels (settled Grade c a).left.labels v) v
  grade_means = (demand_2 Grade c a h v).means

  -- "nothing goes over"
  pub never_over : NeverOver (labels (settled Grade c a).left.labels v)
  never_over = grade-low c a h v

-- "It mirrors the old greatest-of rule, so the laws should be shared over the order and not copied": the order read backwards is an order, and what holds of any order holds
-- of both
pub order_backwards : {leq : ℕ → ℕ → Bool} → Ordered leq → Ordered (λ a b. leq b a)
order_backwards = reversed

-- "Demand 3 holds for it too: when one line rises by d, a part's grade rises by 0 to d"
pub grade_rises_little : (c c' : Columns) (e d : ℕ) → Pair c c' e d → (v : ℕ) → state_in Grade c v ≡ Made → state_in Grade c' v ≡ Made
    → DaysRise d (labels_of Grade c v).weight.0 (labels_of Grade c' v).weight.0
grade_rises_little c c' e d p v s s' = (demand_3_billed Grade c c' e d p).rises v s s'

pub grade_rises_at_most : (c c' : Columns) (e d : ℕ) → Pair c c' e d → (v : ℕ) → state_in Grade c v ≡ Made → state_in Grade c' v ≡ Made
    → (figure_in Grade c v ≤ figure_in Grade c' v) × (figure_in Grade c' v ≤ figure_in Grade c v + d)
grade_rises_at_most c c' e d p v s s' = let r = (demand_3_billed Grade c c' e d p).rises v s s' in (r.least, r.most)

-- "For C the number is 2", "16 from 3 upward"
pub grade_numbered : measure_of 2 ≡ Ok Grade
grade_numbered = refl

pub sixteen_from_three : (k : ℕ) → 2 < k → measure_of k ≡ Err MeasureNumber
sixteen_from_three k h = rw (ne_eqb k 0 (λ q. absurd (omega arith)), ne_eqb k 1 (λ q. absurd (omega arith)), ne_eqb k 2 (λ q. absurd (omega arith))) refl

-- "The text word is `grade`", "14 no longer for `grade`": `parts 5 grade`, LF, as the machine reads it, what the call returns, and what is written
abbrev five_grade : List ℕ
five_grade = 112 ∷ 97 ∷ 114 ∷ 116 ∷ 115 ∷ 32 ∷ 53 ∷ 32 ∷ 103 ∷ 114 ∷ 97 ∷ 100 ∷ 101 ∷ 10 ∷ []

pub five_in_grade : parse five_grade ≡ Whole (record { vertices = 5; measure = Grade; edges = [] })
unfolding first_word listed_in_all limit line_at digit_of grown instead after spell named ended step run finish parse
five_in_grade = refl

pub grade_returned : (read_table five_grade [] [] [] [] []).answer ≡ Ok (record { vertices = 5; measure = Grade; edges = 0; listed = 0 })
unfolding first_word listed_in_all limit line_at digit_of grown instead after spell named ended step run finish parse room_for read_into
grade_returned = refl

pub grade_written : (n : ℕ) → header n Grade ≡ (first_word ++ digits n) ++ 32 ∷ 103 ∷ 114 ∷ 97 ∷ 100 ∷ 101 ∷ 10 ∷ []
unfolding header measure_text word
grade_written n = refl

-- nothing else may follow: of `grape` the `p`, of `grades` the second `s`, of `g` and no more the end
pub grape_refused : FirstByte (112 ∷ 97 ∷ 114 ∷ 116 ∷ 115 ∷ 32 ∷ 53 ∷ 32 ∷ 103 ∷ 114 ∷ 97 ∷ 112 ∷ 101 ∷ 10 ∷ []) 1 12
unfolding column_of column_from survived first_word limit line_at digit_of grown spell named ended step run finish parse
grape_refused = wrong_byte _ 1 refl

pub grades_refused : FirstByte (112 ∷ 97 ∷ 114 ∷ 116 ∷ 115 ∷ 32 ∷ 53 ∷ 32 ∷ 103 ∷ 114 ∷ 97 ∷ 100 ∷ 101 ∷ 115 ∷ 10 ∷ []) 1 14
unfolding column_of column_from survived first_word limit line_at digit_of grown spell named ended step run finish parse
grades_refused = wrong_byte _ 1 refl

pub cut_off_refused : FirstByte (112 ∷ 97 ∷ 114 ∷ 116 ∷ 115 ∷ 32 ∷ 53 ∷ 32 ∷ 103 ∷ []) 1 10
unfolding column_of column_from survived first_word limit line_at digit_of grown spell named ended step run finish parse
cut_off_refused = wrong_byte _ 1 refl

-- the worked table in grade, byte for byte
pub grade_prints : report grade_text ≡ grade_list
grade_prints = worked_grade
