-- The stock clerk's record of the paper's table ("A table priced whole"), in cost. Assumes nothing.
use mathlib.Core.Path.{◌≡◌, refl, sym, ◌∙◌, ap}
use mathlib.Core.List.{List, [], ◌∷◌}
use Prim.Native.Nat.{ℕ, ◌≤◌}
use native.Mathlib.Omega.{arith}
use lib.ListN.{length}
use Rattle.weights.specs.declared.Measure.TheVariants.{Cost}
use Rattle.weights.specs.Measures.{fold, weigh}
use Rattle.weights.specs.Labels.{ahead_of}
use Rattle.columns.specs.Worked.{worked}
use Rattle.columns.specs.Same.{equal, same_answers, same_entries}
use Rattle.columns.specs.Acceptance.{all_below, edge_acceptance, edges_acceptance, acceptance, lent_acceptance}
use Rattle.provenance.specs.Labelling.{each, greatest_depth, none_zero, offer_of}
use Rattle.provenance.specs.BestFirst.{opening, next, turn, turns, best_first}
use Rattle.provenance.specs.Support.{bill, bills}
use Rattle.provenance.specs.Counting.{count, total}
use Rattle.provenance.specs.Pieces.{piece, pieces_at, below}
use Rattle.settle.specs.Settling.{answers_of, entries_of}
use Rattle.inventory.specs.Shelf.{chosen_tail}
use Rattle.inventory.specs.Replaying.{holds, consumed, build, fulfil, receive, apply_event, replay_from, opening_acceptance, record_acceptance, open_acceptance, run_of, replayed}
use Rattle.inventory.specs.Worked.{recorded, leaves}
use Rattle.text.specs.Render.{digits_on, digits, tail_text}
use Rattle.report.specs.Report.{most_input}
use Rattle.reply.specs.Reply.{answered, on_second}
use Rattle.ledger.specs.Ledger.{outcome_word, outcome_row, outcome_rows, stock_line, ledger, said_of, blanks, replayed_said, replay_said}
use Rattle.ledger.specs.Replayed.{event_line, event_lines, record_text, Writable}
use Rattle.ledger.proofs.Replayed.{said_of_record}

--   stock 1 3 0 0 1
--   2 0
--   2 0
--   2 1
--   3 0
--   4 0
--   4 0
--   0 0
unfoldable pub written : List ℕ
written =
    115 ∷ 116 ∷ 111 ∷ 99 ∷ 107 ∷ 32 ∷ 49 ∷ 32 ∷ 51 ∷ 32 ∷ 48 ∷ 32 ∷ 48 ∷ 32 ∷ 49 ∷ 10
    ∷ 50 ∷ 32 ∷ 48 ∷ 10
    ∷ 50 ∷ 32 ∷ 48 ∷ 10
    ∷ 50 ∷ 32 ∷ 49 ∷ 10
    ∷ 51 ∷ 32 ∷ 48 ∷ 10
    ∷ 52 ∷ 32 ∷ 48 ∷ 10
    ∷ 52 ∷ 32 ∷ 48 ∷ 10
    ∷ 48 ∷ 32 ∷ 48 ∷ 10 ∷ []

--   2 built
--   2 late
--   2 received
--   3 built
--   4 issued
--   4 late
--   0 late
--   stock 0 0 0 0 0
unfoldable pub printed : List ℕ
printed =
    50 ∷ 32 ∷ 98 ∷ 117 ∷ 105 ∷ 108 ∷ 116 ∷ 10
    ∷ 50 ∷ 32 ∷ 108 ∷ 97 ∷ 116 ∷ 101 ∷ 10
    ∷ 50 ∷ 32 ∷ 114 ∷ 101 ∷ 99 ∷ 101 ∷ 105 ∷ 118 ∷ 101 ∷ 100 ∷ 10
    ∷ 51 ∷ 32 ∷ 98 ∷ 117 ∷ 105 ∷ 108 ∷ 116 ∷ 10
    ∷ 52 ∷ 32 ∷ 105 ∷ 115 ∷ 115 ∷ 117 ∷ 101 ∷ 100 ∷ 10
    ∷ 52 ∷ 32 ∷ 108 ∷ 97 ∷ 116 ∷ 101 ∷ 10
    ∷ 48 ∷ 32 ∷ 108 ∷ 97 ∷ 116 ∷ 101 ∷ 10
    ∷ 115 ∷ 116 ∷ 111 ∷ 99 ∷ 107 ∷ 32 ∷ 48 ∷ 32 ∷ 48 ∷ 32 ∷ 48 ∷ 32 ∷ 48 ∷ 32 ∷ 48 ∷ 10 ∷ []

abbrev shelf : List ℕ
shelf = 1 ∷ 3 ∷ 0 ∷ 0 ∷ 1 ∷ []

abbrev parts : List ℕ
parts = 2 ∷ 2 ∷ 2 ∷ 3 ∷ 4 ∷ 4 ∷ 0 ∷ []

abbrev received : List ℕ
received = 0 ∷ 0 ∷ 1 ∷ 0 ∷ 0 ∷ 0 ∷ 0 ∷ []

is_written : record_text shelf parts received ≡ written
unfolding written record_text stock_line event_lines event_line tail_text digits_on digits
is_written = refl

writable : Writable shelf parts received
unfolding all_below
writable = record { counts = omega arith; events = omega arith; level = refl; counts_below = refl; parts_below = refl; pieces_below = refl }

is_replayed : recorded worked parts received shelf (blanks 7) ≡ leaves (0 ∷ 0 ∷ 0 ∷ 0 ∷ 0 ∷ []) (2 ∷ 3 ∷ 0 ∷ 2 ∷ 1 ∷ 3 ∷ 3 ∷ [])
unfolding replayed run_of open_acceptance record_acceptance opening_acceptance replay_from apply_event receive fulfil build consumed holds chosen_tail entries_of answers_of same_entries same_answers equal below pieces_at piece bill bills total lent_acceptance acceptance edges_acceptance edge_acceptance all_below best_first turns turn next opening offer_of none_zero ahead_of weigh fold each greatest_depth count
is_replayed = refl

is_printed : ledger parts (2 ∷ 3 ∷ 0 ∷ 2 ∷ 1 ∷ 3 ∷ 3 ∷ []) (0 ∷ 0 ∷ 0 ∷ 0 ∷ 0 ∷ []) ≡ printed
unfolding printed ledger outcome_rows outcome_row outcome_word stock_line tail_text digits_on digits
is_printed = refl

said : replayed_said Cost worked (entries_of Cost worked) parts received shelf (blanks 7) ≡ answered printed
unfolding replayed_said on_second
said = ap (said_of parts) is_replayed ∙ ap answered is_printed

short : length (record_text shelf parts received) ≤ most_input
unfolding written
short = let e = ap length is_written in omega arith

pub record_of_the_paper : replay_said Cost worked (entries_of Cost worked) written ≡ answered printed
record_of_the_paper =
    ap (replay_said Cost worked (entries_of Cost worked)) (sym is_written)
    ∙ said_of_record Cost worked (entries_of Cost worked) shelf parts received writable short
    ∙ said
