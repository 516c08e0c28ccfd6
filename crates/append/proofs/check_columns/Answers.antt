-- `append::check_columns` meets its contract: refused by the lines, by an answer column, or else as the room is. Assumes nothing.
use mathlib.Core.Path.{◌≡◌, sym, ◌∙◌}
use Rattle.columns.specs.Columns.{Entries, Columns, columns, entries}
use Rattle.columns.specs.Longer.{NewLine}
use Rattle.append.specs.Appending.{lines_acceptance}
use Rattle.append.specs.Given.{new_line_of}
use Rattle.append.proofs.Checks.{lines_passed, columns_lines, columns_sizes, columns-room}
use Rattle.refusal.proofs.Passed.{passed_on}
use Rattle.append.proofs.check_columns.Goals as goal
use Rattle.std.specs.Prelude.{Ok}

pub returns-in_err-check_lines : goal.returns-in_err-check_lines
returns-in_err-check_lines c =
    rw (passed_on _ c.from_residual.ensures.1)
    (let came : Entries = let a = c.args in entries a.entries.now.weights.now a.entries.now.depths.now a.entries.now.edges.now a.entries.now.pieces.now in
    let line_of : NewLine = new_line_of c.args.line.now in
    let table_of : Columns = let a = c.args in columns a.table.now.vertices a.table.now.heads.now a.table.now.own.now a.table.now.strikes.now a.table.now.spans.now a.table.now.tails.now in
    columns_lines table_of c.args.in_use line_of came _ (sym c.check_lines.ensures ∙ c.in_err-check_lines.was))

pub returns-in_err-check_sizes : goal.returns-in_err-check_sizes
returns-in_err-check_sizes c =
    rw (passed_on _ c.from_residual-in_err-check_sizes.ensures.1)
    (let line_of : NewLine = new_line_of c.args.line.now in
    let table_of : Columns = let a = c.args in columns a.table.now.vertices a.table.now.heads.now a.table.now.own.now a.table.now.strikes.now a.table.now.spans.now a.table.now.tails.now in
    let accepted : lines_acceptance table_of c.args.in_use line_of ≡ (Ok tt) = sym c.check_lines.ensures ∙ c.in_ok-check_lines.was in
    let came : Entries = let a = c.args in entries a.entries.now.weights.now a.entries.now.depths.now a.entries.now.edges.now a.entries.now.pieces.now in
    columns_sizes table_of c.args.in_use line_of came _ accepted (sym c.check_sizes.ensures ∙ c.in_err-check_sizes.was))

pub check_room-requires : goal.check_room-requires
check_room-requires c =
    let line_of : NewLine = new_line_of c.args.line.now in
    let table_of : Columns = let a = c.args in columns a.table.now.vertices a.table.now.heads.now a.table.now.own.now a.table.now.strikes.now a.table.now.spans.now a.table.now.tails.now in
    let accepted : lines_acceptance table_of c.args.in_use line_of ≡ (Ok tt) = sym c.check_lines.ensures ∙ c.in_ok-check_lines.was in
    (lines_passed table_of c.args.in_use line_of accepted).0.spanned

pub returns : goal.returns
returns c =
    let line_of : NewLine = new_line_of c.args.line.now in
    let table_of : Columns = let a = c.args in columns a.table.now.vertices a.table.now.heads.now a.table.now.own.now a.table.now.strikes.now a.table.now.spans.now a.table.now.tails.now in
    let accepted : lines_acceptance table_of c.args.in_use line_of ≡ (Ok tt) = sym c.check_lines.ensures ∙ c.in_ok-check_lines.was in
    let came : Entries = let a = c.args in entries a.entries.now.weights.now a.entries.now.depths.now a.entries.now.edges.now a.entries.now.pieces.now in
    columns-room table_of c.args.in_use line_of came accepted (sym c.check_sizes.ensures ∙ c.in_ok-check_sizes.was) c.check_room.ensures
