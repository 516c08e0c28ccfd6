-- The paper's worked text and its list, byte for byte, in cost, in days and in grade; and the empty input. The paper's "A table priced whole". Assumes nothing.
use Prim.Native.Nat.{◌≤◌}
use mathlib.Core.Path.{◌≡◌, refl, sym, ◌∙◌, ap}
use mathlib.Core.List.{[], ◌∷◌}
use native.Mathlib.Omega.{arith}
use lib.ListN.{length}
use Rattle.weights.specs.declared.Measure.TheVariants.{Cost, Days, Grade}
use Rattle.weights.specs.Measures.{fold, weigh}
use Rattle.weights.specs.Labels.{ahead_of}
use Rattle.provenance.specs.Labelling.{each, greatest_depth, none_zero, offer_of}
use Rattle.provenance.specs.BestFirst.{opening, next, turn, turns, best_first}
use Rattle.columns.specs.Worked.{worked}
use Rattle.columns.specs.Acceptance.{all_below, edge_acceptance, edges_acceptance, acceptance}
use Rattle.settle.specs.Settling.{answers_of, entries_of}
use Rattle.provenance.specs.Support.{bill, bills}
use Rattle.provenance.specs.Counting.{total}
use Rattle.provenance.specs.Pieces.{piece, pieces_at, below}
use Rattle.text.specs.Tables.{edges_from}
use Rattle.text.specs.Render.{digits_on, digits, word, first_word as opened, measure_text, header, mark_text, own_text, tail_text, edge_text, edges_text, table_text, render}
use Rattle.text.specs.Machine.{run, finish, parse}
use Rattle.text.specs.Bytes.{survived, column_from, column_of}
use Rattle.text.specs.Worked.{cost_text, days_text, grade_text}
use Rattle.readtable.specs.Read.{read_into}
use Rattle.report.specs.Report.{most_input, names, state_word, row, rows, list, refused_word, refused_with, refused_line, listed_as, read_input, report}
use Rattle.report.proofs.Reports.{report-short, report_rendered}
use Rattle.report.specs.Examples.{cost_list, days_list, grade_list}
use Rattle.std.specs.Prelude.{Ok}

accepted : acceptance worked ≡ Ok tt
unfolding all_below edge_acceptance edges_acceptance acceptance
accepted = refl

rendered_cost : render Cost worked ≡ cost_text
unfolding cost_text edges_from digits_on digits word opened measure_text header mark_text own_text tail_text edge_text edges_text table_text
rendered_cost = refl

listed_cost : list (entries_of Cost worked) 5 ≡ cost_list
unfolding cost_list fold weigh ahead_of each greatest_depth none_zero offer_of opening next turn turns best_first answers_of entries_of below pieces_at piece total bill bills digits_on digits names state_word row rows list
listed_cost = refl

pub worked_cost : report cost_text ≡ cost_list
unfolding cost_text
worked_cost =
    let s : length (render Cost worked) ≤ most_input = let e = ap length rendered_cost in omega arith in
    ap report (sym rendered_cost) ∙ report_rendered Cost worked accepted s ∙ listed_cost

rendered_days : render Days worked ≡ days_text
unfolding days_text edges_from digits_on digits word opened measure_text header mark_text own_text tail_text edge_text edges_text table_text
rendered_days = refl

listed_days : list (entries_of Days worked) 5 ≡ days_list
unfolding days_list fold weigh ahead_of each greatest_depth none_zero offer_of opening next turn turns best_first answers_of entries_of below pieces_at piece total bill bills digits_on digits names state_word row rows list
listed_days = refl

pub worked_days : report days_text ≡ days_list
unfolding days_text
worked_days =
    let s : length (render Days worked) ≤ most_input = let e = ap length rendered_days in omega arith in
    ap report (sym rendered_days) ∙ report_rendered Days worked accepted s ∙ listed_days

rendered_grade : render Grade worked ≡ grade_text
unfolding grade_text edges_from digits_on digits word opened measure_text header mark_text own_text tail_text edge_text edges_text table_text
rendered_grade = refl

listed_grade : list (entries_of Grade worked) 5 ≡ grade_list
unfolding grade_list fold weigh ahead_of each greatest_depth none_zero offer_of opening next turn turns best_first answers_of entries_of below pieces_at piece total bill bills digits_on digits names state_word row rows list
listed_grade = refl

pub worked_grade : report grade_text ≡ grade_list
unfolding grade_text
worked_grade =
    let s : length (render Grade worked) ≤ most_input = let e = ap length rendered_grade in omega arith in
    ap report (sym rendered_grade) ∙ report_rendered Grade worked accepted s ∙ listed_grade

-- no byte: `refused 14 1 1`
pub empty_refused : report [] ≡ 114 ∷ 101 ∷ 102 ∷ 117 ∷ 115 ∷ 101 ∷ 100 ∷ 32 ∷ 49 ∷ 52 ∷ 32 ∷ 49 ∷ 32 ∷ 49 ∷ 10 ∷ []
unfolding run finish parse survived column_from column_of read_into read_input listed_as digits_on digits tail_text refused_word refused_with refused_line
empty_refused = report-short [] (omega arith)
