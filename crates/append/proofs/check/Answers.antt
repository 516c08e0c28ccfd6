-- `append::check` meets its contract: refused by the columns, or else as index and answers of the table in use are. Assumes nothing.
use mathlib.Core.Path.{◌≡◌, sym, ◌∙◌}
use native.Mathlib.Omega.{arith}
use lib.Seq.{length-take-le}
use Rattle.columns.specs.Columns.{Entries, Columns, columns, entries}
use Rattle.columns.specs.Longer.{NewLine}
use Rattle.append.specs.Appending.{columns_acceptance}
use Rattle.append.specs.Given.{new_line_of}
use Rattle.append.specs.Growing.{Appendable}
use Rattle.append.proofs.Checks.{columns_passed, appendable_holding, append-columns, append_held}
use Rattle.refusal.proofs.Passed.{passed_on}
use Rattle.append.proofs.check.Goals as goal
use Rattle.std.specs.Prelude.{Ok}

pub returns-in_err-check_columns : goal.returns-in_err-check_columns
returns-in_err-check_columns c =
    rw (passed_on _ c.from_residual.ensures.1)
    (let came : Entries = let a = c.args in entries a.weights.now a.depths.now a.edges.now a.pieces.now in
    let line_of : NewLine = new_line_of c.args.line.now in
    let table_of : Columns = let a = c.args in columns a.n a.heads.now a.own.now a.strikes.now a.spans.now a.tails.now in
    append-columns c.args.measure table_of c.args.in_use came _ _ line_of _ (sym c.check_columns.ensures ∙ c.in_err-check_columns.was))

pub overflow_mul-places : goal.overflow_mul-places
overflow_mul-places c =
    let came : Entries = let a = c.args in entries a.weights.now a.depths.now a.edges.now a.pieces.now in
    let line_of : NewLine = new_line_of c.args.line.now in
    let table_of : Columns = let a = c.args in columns a.n a.heads.now a.own.now a.strikes.now a.spans.now a.tails.now in
    let accepted : columns_acceptance table_of c.args.in_use came line_of ≡ (Ok tt) = sym c.check_columns.ensures ∙ c.in_ok-check_columns.was in
    let appendable : Appendable table_of c.args.in_use came line_of = columns_passed table_of c.args.in_use line_of came accepted in
    omega (arith, appendable.counted.spanned.edges)

pub slice_bounds-check_held-end : goal.slice_bounds-check_held-end
slice_bounds-check_held-end c =
    let came : Entries = let a = c.args in entries a.weights.now a.depths.now a.edges.now a.pieces.now in
    let line_of : NewLine = new_line_of c.args.line.now in
    let table_of : Columns = let a = c.args in columns a.n a.heads.now a.own.now a.strikes.now a.spans.now a.tails.now in
    let accepted : columns_acceptance table_of c.args.in_use came line_of ≡ (Ok tt) = sym c.check_columns.ensures ∙ c.in_ok-check_columns.was in
    let appendable : Appendable table_of c.args.in_use came line_of = columns_passed table_of c.args.in_use line_of came accepted in
    sym (length-take-le _ _ appendable.counted.heads)

pub slice_bounds-check_held-end-2 : goal.slice_bounds-check_held-end-2
slice_bounds-check_held-end-2 c =
    let came : Entries = let a = c.args in entries a.weights.now a.depths.now a.edges.now a.pieces.now in
    let line_of : NewLine = new_line_of c.args.line.now in
    let table_of : Columns = let a = c.args in columns a.n a.heads.now a.own.now a.strikes.now a.spans.now a.tails.now in
    let accepted : columns_acceptance table_of c.args.in_use came line_of ≡ (Ok tt) = sym c.check_columns.ensures ∙ c.in_ok-check_columns.was in
    let appendable : Appendable table_of c.args.in_use came line_of = columns_passed table_of c.args.in_use line_of came accepted in
    sym (length-take-le _ _ appendable.counted.own)

pub slice_bounds-check_held-end-3 : goal.slice_bounds-check_held-end-3
slice_bounds-check_held-end-3 c =
    let came : Entries = let a = c.args in entries a.weights.now a.depths.now a.edges.now a.pieces.now in
    let line_of : NewLine = new_line_of c.args.line.now in
    let table_of : Columns = let a = c.args in columns a.n a.heads.now a.own.now a.strikes.now a.spans.now a.tails.now in
    let accepted : columns_acceptance table_of c.args.in_use came line_of ≡ (Ok tt) = sym c.check_columns.ensures ∙ c.in_ok-check_columns.was in
    let appendable : Appendable table_of c.args.in_use came line_of = columns_passed table_of c.args.in_use line_of came accepted in
    sym (length-take-le _ _ appendable.counted.strikes)

pub slice_bounds-check_held-end-4 : goal.slice_bounds-check_held-end-4
slice_bounds-check_held-end-4 c =
    let came : Entries = let a = c.args in entries a.weights.now a.depths.now a.edges.now a.pieces.now in
    let line_of : NewLine = new_line_of c.args.line.now in
    let table_of : Columns = let a = c.args in columns a.n a.heads.now a.own.now a.strikes.now a.spans.now a.tails.now in
    let accepted : columns_acceptance table_of c.args.in_use came line_of ≡ (Ok tt) = sym c.check_columns.ensures ∙ c.in_ok-check_columns.was in
    let appendable : Appendable table_of c.args.in_use came line_of = columns_passed table_of c.args.in_use line_of came accepted in
    sym (length-take-le _ _ appendable.counted.spanned.spans)

pub slice_bounds-check_held-end-5 : goal.slice_bounds-check_held-end-5
slice_bounds-check_held-end-5 c =
    let came : Entries = let a = c.args in entries a.weights.now a.depths.now a.edges.now a.pieces.now in
    let line_of : NewLine = new_line_of c.args.line.now in
    let table_of : Columns = let a = c.args in columns a.n a.heads.now a.own.now a.strikes.now a.spans.now a.tails.now in
    let accepted : columns_acceptance table_of c.args.in_use came line_of ≡ (Ok tt) = sym c.check_columns.ensures ∙ c.in_ok-check_columns.was in
    let appendable : Appendable table_of c.args.in_use came line_of = columns_passed table_of c.args.in_use line_of came accepted in
    sym (length-take-le _ _ appendable.counted.tails)

pub check_held-requires : goal.check_held-requires
check_held-requires c =
    let came : Entries = let a = c.args in entries a.weights.now a.depths.now a.edges.now a.pieces.now in
    let line_of : NewLine = new_line_of c.args.line.now in
    let table_of : Columns = let a = c.args in columns a.n a.heads.now a.own.now a.strikes.now a.spans.now a.tails.now in
    let accepted : columns_acceptance table_of c.args.in_use came line_of ≡ (Ok tt) = sym c.check_columns.ensures ∙ c.in_ok-check_columns.was in
    let appendable : Appendable table_of c.args.in_use came line_of = columns_passed table_of c.args.in_use line_of came accepted in
    appendable_holding appendable

pub returns : goal.returns
returns c =
    let came : Entries = let a = c.args in entries a.weights.now a.depths.now a.edges.now a.pieces.now in
    let line_of : NewLine = new_line_of c.args.line.now in
    let table_of : Columns = let a = c.args in columns a.n a.heads.now a.own.now a.strikes.now a.spans.now a.tails.now in
    let accepted : columns_acceptance table_of c.args.in_use came line_of ≡ (Ok tt) = sym c.check_columns.ensures ∙ c.in_ok-check_columns.was in
    append_held c.args.measure table_of c.args.in_use came c.args.index.now c.args.list.now line_of accepted c.check_held.ensures
