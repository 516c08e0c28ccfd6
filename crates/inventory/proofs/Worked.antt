-- The worked records hold by computation. Assumes nothing.
use mathlib.Core.Path.{refl}
use Rattle.weights.specs.Measures.{fold, weigh}
use Rattle.weights.specs.Labels.{ahead_of}
use Rattle.provenance.specs.Labelling.{each, greatest_depth, none_zero, offer_of}
use Rattle.provenance.specs.BestFirst.{opening, next, turn, turns, best_first}
use Rattle.provenance.specs.Support.{bill, bills}
use Rattle.provenance.specs.Counting.{count, total}
use Rattle.provenance.specs.Pieces.{piece, pieces_at, below}
use Rattle.columns.specs.Same.{equal, same_answers, same_entries}
use Rattle.columns.specs.Acceptance.{all_below, edge_acceptance, edges_acceptance, acceptance, lent_acceptance}
use Rattle.settle.specs.Settling.{answers_of, entries_of}
use Rattle.inventory.specs.Shelf.{chosen_tail}
use Rattle.inventory.specs.Replaying.{holds, consumed, build, fulfil, receive, apply_event, replay_from, opening_acceptance, record_acceptance, open_acceptance, run_of, replayed}
use Rattle.inventory.specs.Worked.{Worked}

pub worked_records : Worked
unfolding replayed run_of open_acceptance record_acceptance opening_acceptance replay_from apply_event receive fulfil build consumed holds chosen_tail entries_of answers_of same_entries same_answers equal below pieces_at piece bill bills total lent_acceptance acceptance edges_acceptance edge_acceptance all_below best_first turns turn next opening offer_of none_zero ahead_of weigh fold each greatest_depth count
worked_records = record { whole = refl; unmade = refl; empty = refl; full = refl; opening = refl; vertex = refl; receipt = refl }
