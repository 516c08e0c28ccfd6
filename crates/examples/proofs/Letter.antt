-- Every case of the price letter holds; its bounds are the theorem's. Assumes nothing.
use mathlib.Core.Path.{refl}
use Rattle.weights.specs.Measures.{fold, weigh}
use Rattle.weights.specs.Labels.{ahead_of}
use Rattle.provenance.specs.Labelling.{each, greatest_depth, none_zero, offer_of}
use Rattle.provenance.specs.BestFirst.{opening, next, turn, turns, best_first}
use Rattle.provenance.specs.Support.{bills, bill}
use Rattle.provenance.specs.Counting.{count, total, sum_ℤ, bill_change}
use Rattle.provenance.specs.Pieces.{piece, pieces_at, below}
use Rattle.columns.specs.Worked.{worked}
use Rattle.columns.specs.Same.{equal, same_answers, same_entries}
use Rattle.columns.specs.Acceptance.{all_below, edge_acceptance, edges_acceptance, acceptance, lent_acceptance}
use Rattle.settle.specs.Settling.{answers_of, entries_of, settled}
use Rattle.reprice.specs.Revision.{Revised}
use Rattle.bill.specs.Billing.{bill_of, part_acceptance, bill_acceptance, billed}
use Rattle.bill.specs.Rises.{RevisionBilled}
use Rattle.bill.proofs.Rises.{cost_revision_billed}
use Rattle.examples.specs.Case.{AllHold}
use Rattle.examples.specs.Letter.{lettered, letter_cases}

pub worked_letter : Revised worked lettered
unfolding acceptance edges_acceptance edge_acceptance all_below
worked_letter = record { accepted = refl; accepted' = refl; vertices = refl; heads = refl; strikes = refl; spans = refl; tails = refl }

worked_bounds : RevisionBilled worked lettered
worked_bounds = cost_revision_billed worked lettered worked_letter

pub letter_holds : AllHold letter_cases
unfolding letter_cases AllHold bill_change sum_ℤ settled billed answers_of entries_of below pieces_at piece total bill_of part_acceptance bill_acceptance same_answers same_entries equal lent_acceptance acceptance edges_acceptance edge_acceptance all_below best_first turns turn next opening offer_of none_zero ahead_of weigh fold each greatest_depth bill bills count
letter_holds =
    let second = worked_bounds.changes 2 refl refl in
    let third = worked_bounds.changes 3 refl refl in (
      record { letter = worked_letter; before = refl; after = refl; new_sum = refl; old_sum = refl; at_least = second.least; at_most = second.most },
      (
        record { letter = worked_letter; before = refl; after = refl; new_sum = refl; old_sum = refl; at_least = third.least; at_most = third.most },
        (
          refl,
          tt,
        ),
      ),
    )
