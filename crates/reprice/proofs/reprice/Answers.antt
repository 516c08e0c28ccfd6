-- `reprice::reprice` meets its contract: refused by the line, then by the figure, and else as `change` says. Assumes nothing.
use mathlib.Core.Path.{◌≡◌, refl, sym, ◌∙◌}
use Rattle.columns.specs.Columns.{Entries, Columns, columns, entries}
use Rattle.reprice.specs.Repricing.{line_acceptance}
use Rattle.reprice.proofs.Laws.{reprice_by, reprice_line, reprice_figure, reprice_answers, line_numbered, line_changeable}
use Rattle.refusal.proofs.Passed.{passed_on}
use Rattle.reprice.proofs.reprice.Goals as goal
use Rattle.std.specs.Prelude.{Ok, Err}

-- what could be left to find is given: filled in, each would be a path counted out
pub returns-in_err-check_line : goal.returns-in_err-check_line
returns-in_err-check_line c =
    rw (passed_on _ c.from_residual.ensures.1)
    (let came : Entries = let a = c.args in entries a.weights.now a.depths.now a.edges.now a.pieces.now in
    let table_of : Columns = let a = c.args in columns a.n a.heads.now a.own.now a.strikes.now a.spans.now a.tails.now in
    let refused : line_acceptance table_of came c.args.line.0 ≡ Err c.in_err-check_line.field-0.0 = sym c.check_line.ensures ∙ c.in_err-check_line.was in
    reprice_by c.args.measure table_of came c.args.line.0 c.args.figure.0 refl
    (reprice_line c.args.measure table_of came c.args.line.0 c.args.figure.0 c.in_err-check_line.field-0.0 refused))

pub returns-then-figure : goal.returns-then-figure
returns-then-figure c =
    let came : Entries = let a = c.args in entries a.weights.now a.depths.now a.edges.now a.pieces.now in
    let table_of : Columns = let a = c.args in columns a.n a.heads.now a.own.now a.strikes.now a.spans.now a.tails.now in
    let accepted : line_acceptance table_of came c.args.line.0 ≡ (Ok tt) = sym c.check_line.ensures ∙ c.in_ok-check_line.was in
    reprice_by c.args.measure table_of came c.args.line.0 c.args.figure.0 refl
    (reprice_figure c.args.measure table_of came c.args.line.0 accepted c.args.figure.0 c.if-figure.true)

pub change-requires : goal.change-requires
change-requires c =
    let came : Entries = let a = c.args in entries a.weights.now a.depths.now a.edges.now a.pieces.now in
    let table_of : Columns = let a = c.args in columns a.n a.heads.now a.own.now a.strikes.now a.spans.now a.tails.now in
    let accepted : line_acceptance table_of came c.args.line.0 ≡ (Ok tt) = sym c.check_line.ensures ∙ c.in_ok-check_line.was in
    line_changeable table_of came c.args.line.0 (line_numbered table_of came c.args.line.0 accepted) c.args.figure.0 c.if-figure.false

pub returns : goal.returns
returns c =
    let came : Entries = let a = c.args in entries a.weights.now a.depths.now a.edges.now a.pieces.now in
    let table_of : Columns = let a = c.args in columns a.n a.heads.now a.own.now a.strikes.now a.spans.now a.tails.now in
    let accepted : line_acceptance table_of came c.args.line.0 ≡ (Ok tt) = sym c.check_line.ensures ∙ c.in_ok-check_line.was in
    reprice_by c.args.measure table_of came c.args.line.0 c.args.figure.0 c.change.ensures
    (reprice_answers c.args.measure table_of came c.args.line.0 accepted c.args.figure.0 c.if-figure.false)
