-- The paper's table ("A table priced whole") with the line `4 7 1 1` appended, columns, index and list lent with places to spare: line 6, span 6 2; part 4, which was
-- unmade, is 607 by it. Assumes nothing.
use mathlib.Core.Path.{◌≡◌, refl}
use mathlib.Core.List.{[], ◌∷◌}
use Rattle.weights.specs.declared.Measure.TheVariants.{Cost}
use Rattle.weights.specs.Lists.{member}
use Rattle.weights.specs.Measures.{fold, weigh}
use Rattle.weights.specs.Labels.{ahead_of}
use Rattle.columns.specs.Columns.{Entries, Columns, columns, entries}
use Rattle.columns.specs.Acceptance.{all_below, edge_acceptance, edges_acceptance, acceptance}
use Rattle.columns.specs.Filled.{filled}
use Rattle.columns.specs.Same.{equal, same_answers, same_entries}
use Rattle.columns.specs.Longer.{new_line}
use Rattle.provenance.specs.Labelling.{each, greatest_depth, none_zero, offer_of}
use Rattle.provenance.specs.BestFirst.{opening, next, turn, turns, best_first}
use Rattle.uses.specs.Uses.{uses_below, use_list, pairs}
use Rattle.indextable.specs.Index.{begin_with, index_room}
use Rattle.provenance.specs.Support.{bill, bills}
use Rattle.provenance.specs.Counting.{total}
use Rattle.provenance.specs.Pieces.{piece, pieces_at, below}
use Rattle.settle.specs.Settling.{answers_of, entries_of}
use Rattle.append.specs.Appending.{counts_acceptance, new_line_acceptance, sized_acceptance, room_acceptance, append_acceptance, leaves, appended}
use Rattle.std.specs.Prelude.{Ok}

abbrev lent : Columns
lent =
    columns 5
    (0 ∷ 1 ∷ 2 ∷ 2 ∷ 3 ∷ 4 ∷ 90 ∷ 91 ∷ [])
    (1200 ∷ 300 ∷ 500 ∷ 2100 ∷ 0 ∷ 10 ∷ 92 ∷ [])
    (0 ∷ 0 ∷ 0 ∷ 0 ∷ 0 ∷ 0 ∷ 86 ∷ 87 ∷ [])
    (0 ∷ 0 ∷ 0 ∷ 0 ∷ 0 ∷ 2 ∷ 2 ∷ 0 ∷ 2 ∷ 3 ∷ 5 ∷ 1 ∷ 93 ∷ 94 ∷ 95 ∷ [])
    (0 ∷ 1 ∷ 2 ∷ 1 ∷ 1 ∷ 4 ∷ 96 ∷ 97 ∷ 98 ∷ [])

abbrev grows : Columns
grows =
    columns 5
    (0 ∷ 1 ∷ 2 ∷ 2 ∷ 3 ∷ 4 ∷ 4 ∷ 91 ∷ [])
    (1200 ∷ 300 ∷ 500 ∷ 2100 ∷ 0 ∷ 10 ∷ 7 ∷ [])
    (0 ∷ 0 ∷ 0 ∷ 0 ∷ 0 ∷ 0 ∷ 0 ∷ 87 ∷ [])
    (0 ∷ 0 ∷ 0 ∷ 0 ∷ 0 ∷ 2 ∷ 2 ∷ 0 ∷ 2 ∷ 3 ∷ 5 ∷ 1 ∷ 6 ∷ 2 ∷ 95 ∷ [])
    (0 ∷ 1 ∷ 2 ∷ 1 ∷ 1 ∷ 4 ∷ 1 ∷ 1 ∷ 98 ∷ [])

abbrev before : Entries
before = entries (1200 ∷ 300 ∷ 2000 ∷ 2600 ∷ 0 ∷ []) (1 ∷ 1 ∷ 2 ∷ 3 ∷ 0 ∷ []) (0 ∷ 1 ∷ 2 ∷ 4 ∷ 0 ∷ []) (1 ∷ 1 ∷ 2 ∷ 4 ∷ 0 ∷ [])

abbrev after : Entries
after = entries (1200 ∷ 300 ∷ 2000 ∷ 2600 ∷ 607 ∷ []) (1 ∷ 1 ∷ 2 ∷ 3 ∷ 2 ∷ []) (0 ∷ 1 ∷ 2 ∷ 4 ∷ 6 ∷ []) (1 ∷ 1 ∷ 2 ∷ 4 ∷ 2 ∷ [])

pub appended_to_the_paper : appended Cost lent (record { edges = 6; listed = 6 }) before (0 ∷ 1 ∷ 1 ∷ 2 ∷ 3 ∷ 1 ∷ 4 ∷ 0 ∷ 4 ∷ 1 ∷ 99 ∷ [])
    (2 ∷ 2 ∷ 4 ∷ 4 ∷ 5 ∷ 89 ∷ 88 ∷ []) (new_line 4 7 0 (1 ∷ 1 ∷ []))
    ≡ leaves (Ok (record { edges = 7; listed = 8 })) grows after (0 ∷ 1 ∷ 1 ∷ 3 ∷ 4 ∷ 1 ∷ 5 ∷ 0 ∷ 5 ∷ 1 ∷ 99 ∷ []) (2 ∷ 2 ∷ 4 ∷ 6 ∷ 4 ∷ 5 ∷ 88 ∷ [])
unfolding appended append_acceptance counts_acceptance new_line_acceptance sized_acceptance room_acceptance begin_with index_room filled equal same_answers same_entries acceptance edges_acceptance edge_acceptance all_below member uses_below use_list pairs answers_of entries_of below pieces_at piece total bill bills best_first turns turn next opening offer_of none_zero ahead_of weigh fold each greatest_depth
appended_to_the_paper = refl
