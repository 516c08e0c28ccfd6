-- The rule on the paper's tables, by computation: the worked table breaks it in its last line, and keeps it without that line; two parts that need one another break it.
-- Assumes nothing.
use mathlib.Core.Path.{◌≡◌, refl}
use mathlib.Core.List.{[], ◌∷◌}
use Rattle.weights.specs.declared.Measure.TheVariants.{Cost}
use Rattle.refusal.specs.declared.Refusal.TheVariants.{Order}
use Rattle.weights.specs.Measures.{fold, weigh}
use Rattle.weights.specs.Labels.{ahead_of}
use Rattle.provenance.specs.Labelling.{each, greatest_depth, none_zero, offer_of}
use Rattle.provenance.specs.Support.{bill, bills}
use Rattle.provenance.specs.Counting.{total}
use Rattle.provenance.specs.Pieces.{piece, pieces_at, below}
use Rattle.provenance.specs.InOrder.{offer_to, first, walk, in_order}
use Rattle.columns.specs.Columns.{entries}
use Rattle.columns.specs.Acceptance.{all_below, edge_acceptance, sizes_acceptance}
use Rattle.columns.specs.Worked.{worked}
use Rattle.topological.specs.Ordering.{ordered_edge, ordered_edges_acceptance, ordered_acceptance, ordered_lent_acceptance, settled_in_order}
use Rattle.topological.specs.Worked.{worked_in_order, circle}
use Rattle.std.specs.Prelude.{Ok, Err}

-- line 5, `4 10 4`, lists its head
pub worked_unordered : ordered_acceptance worked ≡ Err (Order (record { 0 = 5 }))
unfolding ordered_acceptance sizes_acceptance ordered_edges_acceptance ordered_edge edge_acceptance all_below
worked_unordered = refl

-- without it the parts 0 to 3 have P1's answers, whatever the columns held
pub worked-in_order : settled_in_order Cost worked_in_order (entries (7 ∷ 7 ∷ 7 ∷ 7 ∷ 7 ∷ []) (7 ∷ 7 ∷ 7 ∷ 7 ∷ 7 ∷ []) (7 ∷ 7 ∷ 7 ∷ 7 ∷ 7 ∷ []) (7 ∷ 7 ∷ 7 ∷ 7 ∷ 7 ∷ []))
    ≡ record { result = Ok tt; left = entries (1200 ∷ 300 ∷ 2000 ∷ 2600 ∷ 0 ∷ []) (1 ∷ 1 ∷ 2 ∷ 3 ∷ 0 ∷ []) (0 ∷ 1 ∷ 2 ∷ 4 ∷ 0 ∷ []) (1 ∷ 1 ∷ 2 ∷ 4 ∷ 0 ∷ []) }
unfolding settled_in_order ordered_lent_acceptance ordered_acceptance sizes_acceptance ordered_edges_acceptance ordered_edge edge_acceptance all_below below pieces_at piece total bill bills in_order walk first offer_to offer_of none_zero ahead_of weigh fold each greatest_depth
worked-in_order = refl

-- line 0 of P6's table, `0 0 1`, lists a higher part
pub circle_unordered : ordered_acceptance circle ≡ Err (Order (record { 0 = 0 }))
unfolding ordered_acceptance sizes_acceptance ordered_edges_acceptance ordered_edge edge_acceptance all_below
circle_unordered = refl
