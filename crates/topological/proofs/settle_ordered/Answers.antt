-- `topological::settle_ordered` meets its contract: the columns are refused, or they are accepted, `label` leaves the answers in three of them, and the counts are the
-- fourth. Assumes nothing.
use mathlib.Core.Path.{◌≡◌, sym, ◌∙◌}
use Rattle.columns.specs.Columns.{Entries, Columns, columns, entries}
use Rattle.columns.proofs.Accepted.{AcceptedColumns, labels_accepted}
use Rattle.settle.proofs.Settled.{told_accepted}
use Rattle.topological.specs.Ordering.{ordered_acceptance, ordered_lent_acceptance}
use Rattle.topological.proofs.Settled.{lent_accepted, ordered_refused_left, ordered_all, walked_countable, walked_upward, walked-counted}
use Rattle.refusal.proofs.Passed.{passed_on}
use Rattle.topological.proofs.settle_ordered.Goals as goal
use Rattle.std.specs.Prelude.{Ok}

pub returns-in_err-check_lent : goal.returns-in_err-check_lent
returns-in_err-check_lent c = rw (passed_on _ c.from_residual.ensures.1) (ordered_refused_left _ _ _ _ (sym c.check_lent.ensures ∙ c.in_err-check_lent.was))

pub label-requires : goal.label-requires
label-requires c =
    let came : Entries = let a = c.args in entries a.weights.now a.depths.now a.edges.now a.pieces.now in
    let table_of : Columns = let a = c.args in columns a.table.now.vertices a.table.now.heads.now a.table.now.own.now a.table.now.strikes.now a.table.now.spans.now a.table.now.tails.now in
    let accepted : ordered_lent_acceptance table_of came ≡ (Ok tt) = sym c.check_lent.ensures ∙ c.in_ok-check_lent.was in
    let passed : (ordered_acceptance table_of ≡ Ok tt) × AcceptedColumns table_of came = lent_accepted table_of came accepted in
    labels_accepted (told_accepted table_of came passed.1)

pub count_upward-requires : goal.count_upward-requires
count_upward-requires c =
    let came : Entries = let a = c.args in entries a.weights.now a.depths.now a.edges.now a.pieces.now in
    let table_of : Columns = let a = c.args in columns a.table.now.vertices a.table.now.heads.now a.table.now.own.now a.table.now.strikes.now a.table.now.spans.now a.table.now.tails.now in
    let accepted : ordered_lent_acceptance table_of came ≡ (Ok tt) = sym c.check_lent.ensures ∙ c.in_ok-check_lent.was in
    let passed : (ordered_acceptance table_of ≡ Ok tt) × AcceptedColumns table_of came = lent_accepted table_of came accepted in
    let m = c.args.measure in (
      walked_countable m table_of came passed.1 c.label.ensures passed.0,
      walked_upward m table_of came passed.1 c.label.ensures passed.0,
    )

pub returns : goal.returns
returns c =
    let came : Entries = let a = c.args in entries a.weights.now a.depths.now a.edges.now a.pieces.now in
    let table_of : Columns = let a = c.args in columns a.table.now.vertices a.table.now.heads.now a.table.now.own.now a.table.now.strikes.now a.table.now.spans.now a.table.now.tails.now in
    let accepted : ordered_lent_acceptance table_of came ≡ (Ok tt) = sym c.check_lent.ensures ∙ c.in_ok-check_lent.was in
    let passed : (ordered_acceptance table_of ≡ Ok tt) × AcceptedColumns table_of came = lent_accepted table_of came accepted in
    let counts = walked-counted c.args.measure table_of came passed.1 c.label.ensures passed.0 c.count_upward.ensures in
    ordered_all c.args.measure table_of came _ accepted counts
