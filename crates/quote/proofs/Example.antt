-- The bill of part 2 of the paper's table ("A table priced whole"), in cost. Assumes nothing.
use mathlib.Core.Path.{◌≡◌, refl, ◌∙◌, ap}
use mathlib.Core.List.{List, [], ◌∷◌}
use Prim.Native.Nat.{ℕ}
use Rattle.weights.specs.declared.Measure.TheVariants.{Cost}
use Rattle.weights.specs.Measures.{fold, weigh}
use Rattle.weights.specs.Labels.{ahead_of}
use Rattle.columns.specs.Worked.{worked}
use Rattle.columns.specs.Same.{equal, same_answers, same_entries}
use Rattle.columns.specs.Acceptance.{all_below, edge_acceptance, edges_acceptance, acceptance, lent_acceptance}
use Rattle.provenance.specs.Labelling.{each, greatest_depth, none_zero, offer_of}
use Rattle.provenance.specs.BestFirst.{opening, next, turn, turns, best_first}
use Rattle.provenance.specs.Support.{bill, bills}
use Rattle.provenance.specs.Counting.{total}
use Rattle.provenance.specs.Pieces.{piece, pieces_at, below}
use Rattle.settle.specs.Settling.{answers_of, entries_of}
use Rattle.bill.specs.Billing.{bill_of, part_acceptance, bill_acceptance}
use Rattle.bill.proofs.Asked.{bill_exactly}
use Rattle.text.specs.Render.{digits_on, digits}
use Rattle.report.specs.Report.{state_word}
use Rattle.reply.specs.Reply.{answered}
use Rattle.quote.specs.Quote.{most_lines, row, rows, last_row, sheet, bill_said}
use Rattle.quote.proofs.Quoted.{quoted}
use Rattle.std.specs.Prelude.{Ok}

accepted : bill_acceptance Cost worked (entries_of Cost worked) 2 most_lines ≡ Ok tt
unfolding fold weigh ahead_of each greatest_depth none_zero offer_of opening next turn turns best_first answers_of entries_of below pieces_at piece total bill bills equal same_answers same_entries all_below edge_acceptance edges_acceptance acceptance lent_acceptance bill_of part_acceptance bill_acceptance
accepted = refl

--   2 2 500
--   0 0 1200
--   1 1 300
--   2 made 2000
unfoldable pub printed : List ℕ
printed =
    50 ∷ 32 ∷ 50 ∷ 32 ∷ 53 ∷ 48 ∷ 48 ∷ 10
    ∷ 48 ∷ 32 ∷ 48 ∷ 32 ∷ 49 ∷ 50 ∷ 48 ∷ 48 ∷ 10
    ∷ 49 ∷ 32 ∷ 49 ∷ 32 ∷ 51 ∷ 48 ∷ 48 ∷ 10
    ∷ 50 ∷ 32 ∷ 109 ∷ 97 ∷ 100 ∷ 101 ∷ 32 ∷ 50 ∷ 48 ∷ 48 ∷ 48 ∷ 10 ∷ []

listed : sheet worked (entries_of Cost worked) 2 (bill_of worked (entries_of Cost worked).labels 2) ≡ printed
unfolding printed fold weigh ahead_of each greatest_depth none_zero offer_of opening next turn turns best_first answers_of entries_of below pieces_at piece total bill bills bill_of digits_on digits state_word row rows last_row sheet
listed = refl

pub bill_of_the_paper : bill_said Cost worked (entries_of Cost worked) 2 ≡ answered printed
bill_of_the_paper = (quoted Cost worked (entries_of Cost worked) 2).printed ((bill_exactly Cost worked (entries_of Cost worked) 2 most_lines).0 accepted) ∙ ap answered listed
