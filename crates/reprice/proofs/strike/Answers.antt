-- `reprice::strike` meets its contract: refused by the line, and else as `put_mark` says. Assumes nothing.
use mathlib.Core.Path.{◌≡◌, refl, sym, ◌∙◌}
use native.Mathlib.Omega.{arith}
use Rattle.columns.specs.Columns.{Entries, Columns, columns, entries}
use Rattle.reprice.specs.Repricing.{line_acceptance}
use Rattle.reprice.proofs.Laws.{strike_by, strike_line, strike_answers, line_numbered, line_markable}
use Rattle.refusal.proofs.Passed.{passed_on}
use Rattle.reprice.proofs.strike.Goals as goal
use Rattle.std.specs.Prelude.{Ok, Err}

-- what could be left to find is given: filled in, each would be a path counted out
pub returns-in_err-check_line : goal.returns-in_err-check_line
returns-in_err-check_line c =
    rw (passed_on _ c.from_residual.ensures.1)
    (let came : Entries = let a = c.args in entries a.weights.now a.depths.now a.edges.now a.pieces.now in
    let table_of : Columns = let a = c.args in columns a.n a.heads.now a.own.now a.strikes.now a.spans.now a.tails.now in
    let refused : line_acceptance table_of came c.args.line.0 ≡ Err c.in_err-check_line.field-0.0 = sym c.check_line.ensures ∙ c.in_err-check_line.was in
    strike_by c.args.measure table_of came c.args.line.0 refl
    (strike_line c.args.measure table_of came c.args.line.0 c.in_err-check_line.field-0.0 refused))

pub put_mark-requires : goal.put_mark-requires
put_mark-requires c =
    let came : Entries = let a = c.args in entries a.weights.now a.depths.now a.edges.now a.pieces.now in
    let table_of : Columns = let a = c.args in columns a.n a.heads.now a.own.now a.strikes.now a.spans.now a.tails.now in
    let accepted : line_acceptance table_of came c.args.line.0 ≡ (Ok tt) = sym c.check_line.ensures ∙ c.in_ok-check_line.was in
    line_markable table_of came c.args.line.0 (line_numbered table_of came c.args.line.0 accepted) _ (omega arith)

pub returns : goal.returns
returns c =
    let came : Entries = let a = c.args in entries a.weights.now a.depths.now a.edges.now a.pieces.now in
    let table_of : Columns = let a = c.args in columns a.n a.heads.now a.own.now a.strikes.now a.spans.now a.tails.now in
    let accepted : line_acceptance table_of came c.args.line.0 ≡ (Ok tt) = sym c.check_line.ensures ∙ c.in_ok-check_line.was in
    strike_by c.args.measure table_of came c.args.line.0 c.put_mark.ensures
    (strike_answers c.args.measure table_of came c.args.line.0 accepted)
