-- The paper's table ("A table priced whole") beside the same with line 1 struck, in cost: part 1 is bought no more, part 2 is bought whole, and part 3 cannot be
-- made. Assumes nothing.
use Prim.Native.Nat.{ℕ, ◌≤◌}
use mathlib.Core.Path.{◌≡◌, refl, sym, ◌∙◌, ap}
use mathlib.Core.List.{List, [], ◌∷◌}
use native.Mathlib.Omega.{arith}
use lib.ListN.{length}
use Rattle.weights.specs.declared.Measure.TheVariants.{Cost}
use Rattle.weights.specs.Measures.{fold, weigh}
use Rattle.weights.specs.Labels.{ahead_of}
use Rattle.columns.specs.Columns.{Columns, with_strike}
use Rattle.columns.specs.Worked.{worked}
use Rattle.columns.specs.Acceptance.{all_below, edge_acceptance, edges_acceptance, acceptance}
use Rattle.provenance.specs.Labelling.{each, greatest_depth, none_zero, offer_of}
use Rattle.provenance.specs.BestFirst.{opening, next, turn, turns, best_first}
use Rattle.provenance.specs.Support.{bill, bills}
use Rattle.provenance.specs.Counting.{total}
use Rattle.provenance.specs.Pieces.{piece, pieces_at, below}
use Rattle.settle.specs.Settling.{answers_of, entries_of}
use Rattle.text.specs.Tables.{edges_from}
use Rattle.text.specs.Render.{digits_on, digits, word, first_word, measure_text, header, mark_text, own_text, tail_text, edge_text, edges_text, table_text, render}
use Rattle.report.specs.Report.{most_input, state_word}
use Rattle.reply.specs.Reply.{answered}
use Rattle.compare.specs.Compare.{difference_row, same_state, agrees, row_if, differences, compared_said}
use Rattle.compare.proofs.Compared.{rendered_compared}
use Rattle.std.specs.Prelude.{Ok}

abbrev struck : Columns
struck = with_strike worked 1 1

--   parts 5 cost
--   0 1200
--   1 -300
--   2 500 0 1
--   2 2100
--   3 0 2 1 1
--   4 10 4
unfoldable pub second : List ℕ
second =
    112 ∷ 97 ∷ 114 ∷ 116 ∷ 115 ∷ 32 ∷ 53 ∷ 32 ∷ 99 ∷ 111 ∷ 115 ∷ 116 ∷ 10
    ∷ 48 ∷ 32 ∷ 49 ∷ 50 ∷ 48 ∷ 48 ∷ 10
    ∷ 49 ∷ 32 ∷ 45 ∷ 51 ∷ 48 ∷ 48 ∷ 10
    ∷ 50 ∷ 32 ∷ 53 ∷ 48 ∷ 48 ∷ 32 ∷ 48 ∷ 32 ∷ 49 ∷ 10
    ∷ 50 ∷ 32 ∷ 50 ∷ 49 ∷ 48 ∷ 48 ∷ 10
    ∷ 51 ∷ 32 ∷ 48 ∷ 32 ∷ 50 ∷ 32 ∷ 49 ∷ 32 ∷ 49 ∷ 10
    ∷ 52 ∷ 32 ∷ 49 ∷ 48 ∷ 32 ∷ 52 ∷ 10 ∷ []

--   1 made 300 unmade 0
--   2 made 2000 made 2100
--   3 made 2600 unmade 0
unfoldable pub printed : List ℕ
printed =
    49 ∷ 32 ∷ 109 ∷ 97 ∷ 100 ∷ 101 ∷ 32 ∷ 51 ∷ 48 ∷ 48 ∷ 32 ∷ 117 ∷ 110 ∷ 109 ∷ 97 ∷ 100 ∷ 101 ∷ 32 ∷ 48 ∷ 10
    ∷ 50 ∷ 32 ∷ 109 ∷ 97 ∷ 100 ∷ 101 ∷ 32 ∷ 50 ∷ 48 ∷ 48 ∷ 48 ∷ 32 ∷ 109 ∷ 97 ∷ 100 ∷ 101 ∷ 32 ∷ 50 ∷ 49 ∷ 48 ∷ 48 ∷ 10
    ∷ 51 ∷ 32 ∷ 109 ∷ 97 ∷ 100 ∷ 101 ∷ 32 ∷ 50 ∷ 54 ∷ 48 ∷ 48 ∷ 32 ∷ 117 ∷ 110 ∷ 109 ∷ 97 ∷ 100 ∷ 101 ∷ 32 ∷ 48 ∷ 10 ∷ []

accepted : acceptance struck ≡ Ok tt
unfolding all_below edge_acceptance edges_acceptance acceptance
accepted = refl

its_text : render Cost struck ≡ second
unfolding second edges_from digits_on digits word first_word measure_text header mark_text own_text tail_text edge_text edges_text table_text
its_text = refl

listed : differences (entries_of Cost worked) (entries_of Cost struck) 5 ≡ printed
unfolding printed fold weigh ahead_of each greatest_depth none_zero offer_of opening next turn turns best_first answers_of entries_of below pieces_at piece total bill bills digits_on digits state_word difference_row same_state agrees row_if differences
listed = refl

pub struck_compared : compared_said 5 (entries_of Cost worked) second ≡ answered printed
unfolding second
struck_compared =
    let s : length (render Cost struck) ≤ most_input = let e = ap length its_text in omega arith in
    ap (compared_said 5 (entries_of Cost worked)) (sym its_text) ∙ rendered_compared 5 (entries_of Cost worked) Cost struck accepted s ∙ ap answered listed
