-- `append::check_lines` meets its contract: refused by the counts, by a line that stands, or else as the new line is. Assumes nothing.
use mathlib.Core.Path.{◌≡◌, sym, ◌∙◌}
use native.Mathlib.Omega.{arith}
use lib.ListN.{length}
use lib.Seq.{length-take-le}
use Rattle.columns.specs.Columns.{Columns, columns}
use Rattle.columns.specs.Longer.{NewLine}
use Rattle.append.specs.Appending.{counts_acceptance}
use Rattle.append.specs.Given.{new_line_of}
use Rattle.append.specs.Growing.{Counted}
use Rattle.append.proofs.Checks.{counts_passed, lines_counts, lines_table, lines_new}
use Rattle.refusal.proofs.Passed.{passed_on}
use Rattle.append.proofs.check_lines.Goals as goal
use Rattle.std.specs.Prelude.{Ok}

pub returns-in_err-check_counts : goal.returns-in_err-check_counts
returns-in_err-check_counts c =
    rw (passed_on _ c.from_residual.ensures.1)
    (let line_of : NewLine = new_line_of c.args.line.now in
    let table_of : Columns = let a = c.args in columns a.table.now.vertices a.table.now.heads.now a.table.now.own.now a.table.now.strikes.now a.table.now.spans.now a.table.now.tails.now in
    lines_counts table_of c.args.in_use line_of _ (sym c.check_counts.ensures ∙ c.in_err-check_counts.was))

pub overflow_mul-places : goal.overflow_mul-places
overflow_mul-places c =
    let table_of : Columns = let a = c.args in columns a.table.now.vertices a.table.now.heads.now a.table.now.own.now a.table.now.strikes.now a.table.now.spans.now a.table.now.tails.now in
    let accepted : counts_acceptance table_of c.args.in_use (length c.args.line.now.tail.now) ≡ (Ok tt) = sym c.check_counts.ensures ∙ c.in_ok-check_counts.was in
    let counted : Counted table_of c.args.in_use (length c.args.line.now.tail.now) = counts_passed table_of c.args.in_use (length c.args.line.now.tail.now) accepted in
    omega (arith, counted.spanned.edges)

pub slice_bounds-check_table-end : goal.slice_bounds-check_table-end
slice_bounds-check_table-end c =
    let table_of : Columns = let a = c.args in columns a.table.now.vertices a.table.now.heads.now a.table.now.own.now a.table.now.strikes.now a.table.now.spans.now a.table.now.tails.now in
    let accepted : counts_acceptance table_of c.args.in_use (length c.args.line.now.tail.now) ≡ (Ok tt) = sym c.check_counts.ensures ∙ c.in_ok-check_counts.was in
    let counted : Counted table_of c.args.in_use (length c.args.line.now.tail.now) = counts_passed table_of c.args.in_use (length c.args.line.now.tail.now) accepted in
    sym (length-take-le _ _ counted.heads)

pub slice_bounds-check_table-end-2 : goal.slice_bounds-check_table-end-2
slice_bounds-check_table-end-2 c =
    let table_of : Columns = let a = c.args in columns a.table.now.vertices a.table.now.heads.now a.table.now.own.now a.table.now.strikes.now a.table.now.spans.now a.table.now.tails.now in
    let accepted : counts_acceptance table_of c.args.in_use (length c.args.line.now.tail.now) ≡ (Ok tt) = sym c.check_counts.ensures ∙ c.in_ok-check_counts.was in
    let counted : Counted table_of c.args.in_use (length c.args.line.now.tail.now) = counts_passed table_of c.args.in_use (length c.args.line.now.tail.now) accepted in
    sym (length-take-le _ _ counted.own)

pub slice_bounds-check_table-end-3 : goal.slice_bounds-check_table-end-3
slice_bounds-check_table-end-3 c =
    let table_of : Columns = let a = c.args in columns a.table.now.vertices a.table.now.heads.now a.table.now.own.now a.table.now.strikes.now a.table.now.spans.now a.table.now.tails.now in
    let accepted : counts_acceptance table_of c.args.in_use (length c.args.line.now.tail.now) ≡ (Ok tt) = sym c.check_counts.ensures ∙ c.in_ok-check_counts.was in
    let counted : Counted table_of c.args.in_use (length c.args.line.now.tail.now) = counts_passed table_of c.args.in_use (length c.args.line.now.tail.now) accepted in
    sym (length-take-le _ _ counted.strikes)

pub slice_bounds-check_table-end-4 : goal.slice_bounds-check_table-end-4
slice_bounds-check_table-end-4 c =
    let table_of : Columns = let a = c.args in columns a.table.now.vertices a.table.now.heads.now a.table.now.own.now a.table.now.strikes.now a.table.now.spans.now a.table.now.tails.now in
    let accepted : counts_acceptance table_of c.args.in_use (length c.args.line.now.tail.now) ≡ (Ok tt) = sym c.check_counts.ensures ∙ c.in_ok-check_counts.was in
    let counted : Counted table_of c.args.in_use (length c.args.line.now.tail.now) = counts_passed table_of c.args.in_use (length c.args.line.now.tail.now) accepted in
    sym (length-take-le _ _ counted.spanned.spans)

pub slice_bounds-check_table-end-5 : goal.slice_bounds-check_table-end-5
slice_bounds-check_table-end-5 c =
    let table_of : Columns = let a = c.args in columns a.table.now.vertices a.table.now.heads.now a.table.now.own.now a.table.now.strikes.now a.table.now.spans.now a.table.now.tails.now in
    let accepted : counts_acceptance table_of c.args.in_use (length c.args.line.now.tail.now) ≡ (Ok tt) = sym c.check_counts.ensures ∙ c.in_ok-check_counts.was in
    let counted : Counted table_of c.args.in_use (length c.args.line.now.tail.now) = counts_passed table_of c.args.in_use (length c.args.line.now.tail.now) accepted in
    sym (length-take-le _ _ counted.tails)

pub returns-in_err-check_table : goal.returns-in_err-check_table
returns-in_err-check_table c =
    rw (passed_on _ c.from_residual-in_err-check_table.ensures.1)
    (let table_of : Columns = let a = c.args in columns a.table.now.vertices a.table.now.heads.now a.table.now.own.now a.table.now.strikes.now a.table.now.spans.now a.table.now.tails.now in
    let accepted : counts_acceptance table_of c.args.in_use (length c.args.line.now.tail.now) ≡ (Ok tt) = sym c.check_counts.ensures ∙ c.in_ok-check_counts.was in
    let line_of : NewLine = new_line_of c.args.line.now in
    lines_table table_of c.args.in_use line_of _ accepted (sym c.check_table.ensures ∙ c.in_err-check_table.was))

pub returns : goal.returns
returns c =
    let table_of : Columns = let a = c.args in columns a.table.now.vertices a.table.now.heads.now a.table.now.own.now a.table.now.strikes.now a.table.now.spans.now a.table.now.tails.now in
    let accepted : counts_acceptance table_of c.args.in_use (length c.args.line.now.tail.now) ≡ (Ok tt) = sym c.check_counts.ensures ∙ c.in_ok-check_counts.was in
    let line_of : NewLine = new_line_of c.args.line.now in
    lines_new table_of c.args.in_use line_of accepted (sym c.check_table.ensures ∙ c.in_ok-check_table.was) c.check_line.ensures
