-- Every case of the paper's list holds: "Proved examples, gathered into one list that a single theorem about the definitions covers". Assumes nothing.
use native.Mathlib.Omega.{arith}
use mathlib.Core.Path.{refl}
use Rattle.weights.specs.declared.Measure.TheVariants.{Cost, Grade}
use Rattle.weights.specs.Measures.{fold, weigh}
use Rattle.weights.specs.Labels.{ahead_of}
use Rattle.provenance.specs.Labelling.{each, greatest_depth, none_zero, offer_of}
use Rattle.provenance.specs.BestFirst.{opening, next, turn, turns, best_first}
use Rattle.provenance.specs.Support.{bills, bill}
use Rattle.provenance.specs.Counting.{count, total}
use Rattle.provenance.specs.Pieces.{piece, pieces_at, below}
use Rattle.columns.specs.Columns.{with_own}
use Rattle.columns.specs.Worked.{worked}
use Rattle.columns.specs.Same.{equal, same_answers, same_entries}
use Rattle.columns.specs.Acceptance.{all_below, edge_acceptance, edges_acceptance, acceptance, lent_acceptance}
use Rattle.settle.specs.Settling.{answers_of, entries_of, settled}
use Rattle.reprice.specs.Repricing.{line_acceptance, reprice_acceptance, strike_acceptance, numbered_acceptance, struck_acceptance, restore_acceptance, repriced, stricken, restored}
use Rattle.reprice.specs.Demand3.{Pair}
use Rattle.bill.specs.Billing.{bill_of, part_acceptance, bill_acceptance, billed}
use Rattle.bill.specs.Rises.{Demand3Billed}
use Rattle.bill.proofs.Rises.{demand_3_billed}
use Rattle.examples.specs.Case.{states, AllHold}
use Rattle.examples.specs.Paper.{cases}

-- the worked table and that of P3 are a pair as demand 3 asks for
pub worked_pair : Pair worked (with_own worked 1 500) 1 200
unfolding acceptance edges_acceptance edge_acceptance all_below
worked_pair = record { accepted = refl; accepted' = refl; raised = refl; numbered = omega arith; unstruck = refl }

-- P3's bounds are demand 3's
worked_bounds : Demand3Billed Cost worked (with_own worked 1 500) 1 200
worked_bounds = demand_3_billed Cost worked (with_own worked 1 500) 1 200 worked_pair

grade_pair : Pair worked (with_own worked 4 400) 4 400
unfolding acceptance edges_acceptance edge_acceptance all_below
grade_pair = record { accepted = refl; accepted' = refl; raised = refl; numbered = omega arith; unstruck = refl }

grade_bounds : Demand3Billed Grade worked (with_own worked 4 400) 4 400
grade_bounds = demand_3_billed Grade worked (with_own worked 4 400) 4 400 grade_pair

pub every_case_holds : AllHold cases
unfolding cases AllHold states settled billed repriced stricken restored answers_of entries_of below pieces_at piece total bill_of part_acceptance bill_acceptance reprice_acceptance strike_acceptance line_acceptance restore_acceptance struck_acceptance numbered_acceptance same_answers same_entries equal lent_acceptance acceptance edges_acceptance edge_acceptance all_below best_first turns turn next opening offer_of none_zero ahead_of weigh fold each greatest_depth bill bills count
every_case_holds = (
  record { outcome = refl; told = refl },
  (
    refl,
    (
      refl,
      (
        record { pair = worked_pair; before = refl; after = refl; old_count = refl; new_count = refl; bounds = worked_bounds.rises 3 refl refl },
        (
          record { outcome = refl; told = refl },
          (
            record { outcome = refl; told = refl },
            (
              record { outcome = refl; told = refl },
              (
                record { outcome = refl; told = refl },
                (
                  record { outcome = refl; told = refl },
                  (
                    record { outcome = refl; told = refl },
                    (
                      refl,
                      (
                        refl,
                        (
                          record { outcome = refl; told = refl },
                          (
                            refl,
                            (
                              refl,
                              (
                                record { pair = grade_pair; before = refl; after = refl; old_count = refl; new_count = refl; bounds = grade_bounds.rises 3 refl refl },
                                tt,
                              ),
                            ),
                          ),
                        ),
                      ),
                    ),
                  ),
                ),
              ),
            ),
          ),
        ),
      ),
    ),
  ),
)
