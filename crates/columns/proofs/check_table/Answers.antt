-- `columns::check_table` meets its contract: the sizes are refused, or the hyperedges alone are left to be looked at. Assumes nothing.
use mathlib.Core.Path.{◌≡◌, sym, ◌∙◌}
use Rattle.columns.specs.Columns.{Columns, columns}
use Rattle.columns.specs.Acceptance.{sizes_acceptance}
use Rattle.columns.proofs.Sizes.{sizes_refused, sizes_passed, sizes_level}
use Rattle.refusal.proofs.Passed.{passed_on}
use Rattle.columns.proofs.check_table.Goals as goal
use Rattle.std.specs.Prelude.{Ok}

pub returns-in_err-check_sizes : goal.returns-in_err-check_sizes
returns-in_err-check_sizes c = rw (passed_on _ c.from_residual.ensures.1) (sizes_refused _ _ (sym c.check_sizes.ensures ∙ c.in_err-check_sizes.was))

pub check_edges-requires : goal.check_edges-requires
check_edges-requires c =
    let table_of : Columns = let a = c.args in columns a.table.now.vertices a.table.now.heads.now a.table.now.own.now a.table.now.strikes.now a.table.now.spans.now a.table.now.tails.now in
    let passed : sizes_acceptance table_of ≡ (Ok tt) = sym c.check_sizes.ensures ∙ c.in_ok-check_sizes.was in
    let l = (sizes_level _ passed).1 in (l.own, l.strikes, l.spans)

pub returns : goal.returns
returns c =
    let table_of : Columns = let a = c.args in columns a.table.now.vertices a.table.now.heads.now a.table.now.own.now a.table.now.strikes.now a.table.now.spans.now a.table.now.tails.now in
    let passed : sizes_acceptance table_of ≡ (Ok tt) = sym c.check_sizes.ensures ∙ c.in_ok-check_sizes.was in
    c.check_edges.ensures ∙ sizes_passed _ passed
