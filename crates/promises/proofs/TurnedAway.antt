-- "What is turned away": each refusal's number, and the small example of each of the seventeen, and of 20 and 21, which document 02 added. When each applies, and in which
-- order, Demand1 and the files of the requests say. Assumes nothing.
use mathlib.Core.Path.{◌≡◌, refl}
use mathlib.Core.List.{List, [], ◌∷◌}
use Prim.Native.Nat.{ℕ}
use native.Mathlib.Omega.{arith}
use lib.ListN.{length, replicate}
use Rattle.weights.specs.declared.Hyperedge.{Hyperedge}
use Rattle.weights.specs.declared.Measure.TheVariants.{Cost}
use Rattle.weights.specs.Measures.{fold, weigh}
use Rattle.weights.specs.Labels.{ahead_of}
use Rattle.refusal.specs.declared.Refusal.TheVariants.{TooManyVertices, Lengths, Head, Own, Span, Tail, AnswerLength, WrongAnswers, NoSuchEdge, NewWeight, NoSuchVertex, Underivable, BillRoom, Text, TextRoom, MeasureNumber, InputLength, NotStruck, StrikeMark, ColumnRoom, WrongIndex}
use Rattle.refusal.specs.declared.TextLine.{TextLine}
use Rattle.refusal.specs.declared.TextColumn.{TextColumn}
use Rattle.refusal.specs.Refusals.{measure_of, code, code_of}
use Rattle.columns.specs.Columns.{Entries, columns, entries}
use Rattle.columns.specs.Acceptance.{all_below, edge_acceptance, edges_acceptance, acceptance, lent_acceptance}
use Rattle.columns.specs.Worked.{worked}
use Rattle.columns.specs.Same.{equal, same_answers, same_entries}
use Rattle.provenance.specs.Labelling.{each, greatest_depth, none_zero, offer_of}
use Rattle.provenance.specs.BestFirst.{opening, next, turn, turns, best_first}
use Rattle.provenance.specs.Support.{bills, bill}
use Rattle.provenance.specs.Counting.{total}
use Rattle.provenance.specs.Pieces.{piece, pieces_at, below}
use Rattle.settle.specs.Settling.{answers_of, entries_of}
use Rattle.reprice.specs.Repricing.{line_acceptance, reprice_acceptance, repriced, numbered_acceptance, struck_acceptance, restore_acceptance, restored}
use Rattle.bill.specs.Billing.{bill_of, part_acceptance, bill_acceptance, billed}
use Rattle.text.specs.Tables.{listed_in_all}
use Rattle.text.specs.Render.{first_word, Permitted}
use Rattle.text.specs.Worked.{cost_text}
use Rattle.text.specs.Machine.{limit, line_at, digit_of, grown, instead, after, spell, named, ended, step, run, finish, parse}
use Rattle.text.specs.Bytes.{survived, column_from, column_of}
use Rattle.text.proofs.Permitted.{wrong_unpermitted}
use Rattle.readtable.specs.Read.{room_for, read_into, read_table}
use Rattle.report.specs.Report.{refused_line, report}
use Rattle.report.proofs.Reports.{report_long}
use Rattle.std.specs.Prelude.{Err}

-- "A refusal returns its number and a place (a table line for 3 to 6, a text line from 1 for 14, otherwise 0)", and 14 a column (2026-06): the table's first column. Of 22 to
-- 27 the files of their requests say it
pub numbers : (code_of TooManyVertices ≡ code 1 0)
    × (code_of Lengths ≡ code 2 0)
    × (code_of AnswerLength ≡ code 7 0)
    × (code_of WrongAnswers ≡ code 8 0)
    × (code_of NoSuchEdge ≡ code 9 0)
    × (code_of NewWeight ≡ code 10 0)
    × (code_of NoSuchVertex ≡ code 11 0)
    × (code_of Underivable ≡ code 12 0)
    × (code_of BillRoom ≡ code 13 0)
    × (code_of TextRoom ≡ code 15 0)
    × (code_of MeasureNumber ≡ code 16 0)
    × (code_of InputLength ≡ code 17 0)
    × (code_of ColumnRoom ≡ code 18 0)
    × (code_of WrongIndex ≡ code 19 0)
    × (code_of NotStruck ≡ code 20 0)
numbers = (refl, refl, refl, refl, refl, refl, refl, refl, refl, refl, refl, refl, refl, refl, refl)

pub line_numbers : (e : Hyperedge) → (code_of (Head e) ≡ code 3 e.0)
    × (code_of (Own e) ≡ code 4 e.0)
    × (code_of (StrikeMark e) ≡ code 21 e.0)
    × (code_of (Span e) ≡ code 5 e.0)
    × (code_of (Tail e) ≡ code 6 e.0)
line_numbers e = (refl, refl, refl, refl, refl)

pub text_number : (l : TextLine) (c : TextColumn) → code_of (Text l c) ≡ record { number = 14; place = l.0; column = c.0 }
text_number l c = refl

-- "n = 1,025"
pub refusal_1 : acceptance (columns 1_025 [] [] [] [] []) ≡ Err TooManyVertices
unfolding acceptance
refusal_1 = refl

-- "2 heads, 1 own figure"
pub refusal_2 : acceptance (columns 5 (0 ∷ 1 ∷ []) (0 ∷ []) (0 ∷ 0 ∷ []) (0 ∷ 0 ∷ 0 ∷ 0 ∷ []) []) ≡ Err Lengths
unfolding acceptance
refusal_2 = refl

-- "n = 5, head 5"
pub refusal_3 : acceptance (columns 5 (5 ∷ []) (0 ∷ []) (0 ∷ []) (0 ∷ 0 ∷ []) []) ≡ Err (Head (record { 0 = 0 }))
unfolding acceptance edges_acceptance edge_acceptance
refusal_3 = refl

-- "4 now turns away any figure above 1,000,000,000" (document 02, 2026-02), struck or not
pub refusal_4 : acceptance (columns 5 (0 ∷ []) (1_000_000_001 ∷ []) (1 ∷ []) (0 ∷ 0 ∷ []) []) ≡ Err (Own (record { 0 = 0 }))
unfolding acceptance edges_acceptance edge_acceptance
refusal_4 = refl

-- "spans (0,2), (1,1)"
pub refusal_5 : acceptance (columns 5 (0 ∷ 1 ∷ []) (0 ∷ 0 ∷ []) (0 ∷ 0 ∷ []) (0 ∷ 2 ∷ 1 ∷ 1 ∷ []) (0 ∷ 1 ∷ [])) ≡ Err (Span (record { 0 = 1 }))
unfolding acceptance edges_acceptance edge_acceptance all_below
refusal_5 = refl

-- "n = 5, part 9"
pub refusal_6 : acceptance (columns 5 (0 ∷ []) (0 ∷ []) (0 ∷ []) (0 ∷ 1 ∷ []) (9 ∷ [])) ≡ Err (Tail (record { 0 = 0 }))
unfolding acceptance edges_acceptance edge_acceptance all_below
refusal_6 = refl

-- "n = 5, 4 places"
pub refusal_7 : lent_acceptance worked (entries (0 ∷ 0 ∷ 0 ∷ 0 ∷ []) (0 ∷ 0 ∷ 0 ∷ 0 ∷ []) (0 ∷ 0 ∷ 0 ∷ 0 ∷ []) (0 ∷ 0 ∷ 0 ∷ 0 ∷ [])) ≡ Err AnswerLength
unfolding lent_acceptance acceptance edges_acceptance edge_acceptance all_below
refusal_7 = refl

-- the answers of the table priced whole, with this figure of part 3
abbrev pub with_figure : ℕ → Entries
with_figure w = entries (1200 ∷ 300 ∷ 2000 ∷ w ∷ 0 ∷ []) (1 ∷ 1 ∷ 2 ∷ 3 ∷ 0 ∷ []) (0 ∷ 1 ∷ 2 ∷ 4 ∷ 0 ∷ []) (1 ∷ 1 ∷ 2 ∷ 4 ∷ 0 ∷ [])

priced : entries_of Cost worked ≡ with_figure 2600
unfolding answers_of entries_of below pieces_at piece total bill bills best_first turns turn next opening offer_of none_zero ahead_of weigh fold each greatest_depth
priced = refl

-- "a figure off by 1"
pub refusal_8 : (repriced Cost worked (with_figure 2601) 1 500).result ≡ Err WrongAnswers
unfolding repriced reprice_acceptance line_acceptance same_answers same_entries equal lent_acceptance acceptance edges_acceptance edge_acceptance all_below
refusal_8 = rw priced refl

-- "line 6 of 6"
pub refusal_9 : (repriced Cost worked (with_figure 2600) 6 500).result ≡ Err NoSuchEdge
unfolding repriced reprice_acceptance line_acceptance lent_acceptance acceptance edges_acceptance edge_acceptance all_below
refusal_9 = refl

-- 1,000,000,001
pub refusal_10 : (repriced Cost worked (with_figure 2600) 1 1_000_000_001).result ≡ Err NewWeight
unfolding repriced reprice_acceptance line_acceptance lent_acceptance acceptance edges_acceptance edge_acceptance all_below
refusal_10 = refl

-- "part 5 of 5"
pub refusal_11 : (billed Cost worked (with_figure 2600) 5 []).result ≡ Err NoSuchVertex
unfolding billed bill_acceptance part_acceptance lent_acceptance acceptance edges_acceptance edge_acceptance all_below
refusal_11 = refl

-- "part 4 below"
pub refusal_12 : (billed Cost worked (with_figure 2600) 4 []).result ≡ Err Underivable
unfolding billed bill_acceptance part_acceptance same_answers same_entries equal lent_acceptance acceptance edges_acceptance edge_acceptance all_below
refusal_12 = rw priced refl

-- "6 lines, room 5"
pub refusal_13 : (billed Cost worked (with_figure 2600) 3 (0 ∷ 0 ∷ 0 ∷ 0 ∷ 0 ∷ [])).result ≡ Err BillRoom
unfolding billed bill_acceptance part_acceptance bill_of bill bills same_answers same_entries equal lent_acceptance acceptance edges_acceptance edge_acceptance all_below
refusal_13 = rw priced refl

-- "empty text, place 1"; "For the empty text it is line 1, column 1" (document 02, 2026-06)
pub refusal_14 : (read_table [] [] [] [] [] []).answer ≡ Err (Text (record { 0 = 1 }) (record { 0 = 1 }))
unfolding run finish parse survived column_from column_of read_into
refusal_14 = refl

-- "`parts 5 days` is refused" (document 02, 2026-07)
pub days_unnamed : ¬ Permitted (112 ∷ 97 ∷ 114 ∷ 116 ∷ 115 ∷ 32 ∷ 53 ∷ 32 ∷ 100 ∷ 97 ∷ 121 ∷ 115 ∷ 10 ∷ [])
unfolding first_word limit line_at digit_of grown spell named ended step run finish parse
days_unnamed = wrong_unpermitted _ 1 refl

-- "the number 1000000001 is refused": `parts 1`, then `0 1000000001`
pub mark_unnumbered : ¬ Permitted (112 ∷ 97 ∷ 114 ∷ 116 ∷ 115 ∷ 32 ∷ 49 ∷ 10 ∷ 48 ∷ 32 ∷ 49 ∷ 48 ∷ 48 ∷ 48 ∷ 48 ∷ 48 ∷ 48 ∷ 48 ∷ 48 ∷ 49 ∷ 10 ∷ [])
unfolding first_word limit line_at digit_of grown instead after spell named ended step run finish parse
mark_unnumbered = wrong_unpermitted _ 2 refl

-- "6 lines, 5 heads": the worked text
pub refusal_15 : let z = replicate {A = ℕ} 6 0 in (read_table cost_text (replicate 5 0) z z (replicate 12 0) z).answer ≡ Err TextRoom
unfolding cost_text first_word listed_in_all limit line_at digit_of grown instead after spell named ended step run finish parse room_for read_into
refusal_15 = refl

-- "16 from 3 upward" (document 02, 2026-10)
pub refusal_16 : measure_of 3 ≡ Err MeasureNumber
refusal_16 = refl

-- "65,536 bytes", whatever they are: "The program: 17 first"
pub refusal_17 : (input : List ℕ) → length input ≡ 65_536 → report input ≡ refused_line InputLength
refusal_17 input h = report_long input (omega arith)

-- restoring a line that stands
pub refusal_20 : (restored Cost worked (with_figure 2600) 1).result ≡ Err NotStruck
unfolding restored restore_acceptance struck_acceptance numbered_acceptance lent_acceptance acceptance edges_acceptance edge_acceptance all_below
refusal_20 = refl

-- the mark 2
pub refusal_21 : acceptance (columns 5 (0 ∷ []) (0 ∷ []) (2 ∷ []) (0 ∷ 0 ∷ []) []) ≡ Err (StrikeMark (record { 0 = 0 }))
unfolding acceptance edges_acceptance edge_acceptance
refusal_21 = refl

-- "a bare `-` is refused": `parts 1`, then `0 -`
pub bare_dash : ¬ Permitted (112 ∷ 97 ∷ 114 ∷ 116 ∷ 115 ∷ 32 ∷ 49 ∷ 10 ∷ 48 ∷ 32 ∷ 45 ∷ 10 ∷ [])
unfolding first_word limit line_at digit_of grown instead after spell named ended step run finish parse
bare_dash = wrong_unpermitted _ 2 refl
