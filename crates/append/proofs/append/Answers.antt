-- `append::append` meets its contract: a check refuses, or the line is stored and the longer table indexed and labelled. Assumes nothing.
use mathlib.Core.Path.{◌≡◌, sym, ◌∙◌}
use native.Mathlib.Omega.{arith}
use Rattle.columns.specs.Columns.{Entries, Columns, columns, entries}
use Rattle.columns.specs.Longer.{NewLine}
use Rattle.append.specs.Appending.{append_acceptance}
use Rattle.append.specs.Given.{new_line_of}
use Rattle.append.specs.Growing.{Growable}
use Rattle.append.proofs.Checks.{append_passed}
use Rattle.append.proofs.Storing.{storable, counts_are, stored_at, renewable, all_grown, refused_grown}
use Rattle.refusal.proofs.Passed.{passed_on}
use Rattle.append.proofs.append.Goals as goal
use Rattle.std.specs.Prelude.{Ok}

pub returns-in_err-check : goal.returns-in_err-check
returns-in_err-check c =
    rw (passed_on _ c.from_residual.ensures.1)
    (let came : Entries = let a = c.args in entries a.weights.now a.depths.now a.edges.now a.pieces.now in
    let line_of : NewLine = new_line_of c.args.line.now in
    let table_of : Columns = let a = c.args in columns a.n a.heads.now a.own.now a.strikes.now a.spans.now a.tails.now in
    refused_grown c.args.measure table_of c.args.in_use came c.args.index.now c.args.list.now line_of (sym c.check.ensures ∙ c.in_err-check.was))

pub end_of-end-requires : goal.end_of-end-requires
end_of-end-requires c =
    let came : Entries = let a = c.args in entries a.weights.now a.depths.now a.edges.now a.pieces.now in
    let line_of : NewLine = new_line_of c.args.line.now in
    let table_of : Columns = let a = c.args in columns a.n a.heads.now a.own.now a.strikes.now a.spans.now a.tails.now in
    let accepted : let a = c.args in append_acceptance a.measure table_of a.in_use came a.index.now a.list.now line_of ≡ (Ok tt) = sym c.check.ensures ∙ c.in_ok-check.was in
    let ready : let a = c.args in Growable table_of a.in_use came line_of a.index.now a.list.now = let a = c.args in append_passed a.measure table_of a.in_use came a.index.now a.list.now line_of accepted in
    let g = ready.appendable.counted.spanned in (g.spans, omega (arith, g.listed))

pub store_line-requires : goal.store_line-requires
store_line-requires c =
    let came : Entries = let a = c.args in entries a.weights.now a.depths.now a.edges.now a.pieces.now in
    let line_of : NewLine = new_line_of c.args.line.now in
    let table_of : Columns = let a = c.args in columns a.n a.heads.now a.own.now a.strikes.now a.spans.now a.tails.now in
    let accepted : let a = c.args in append_acceptance a.measure table_of a.in_use came a.index.now a.list.now line_of ≡ (Ok tt) = sym c.check.ensures ∙ c.in_ok-check.was in
    let ready : let a = c.args in Growable table_of a.in_use came line_of a.index.now a.list.now = let a = c.args in append_passed a.measure table_of a.in_use came a.index.now a.list.now line_of accepted in
    storable table_of c.args.in_use came line_of ready.appendable c.end_of-end.ensures

pub overflow_add-counts : goal.overflow_add-counts
overflow_add-counts c =
    let came : Entries = let a = c.args in entries a.weights.now a.depths.now a.edges.now a.pieces.now in
    let line_of : NewLine = new_line_of c.args.line.now in
    let table_of : Columns = let a = c.args in columns a.n a.heads.now a.own.now a.strikes.now a.spans.now a.tails.now in
    let accepted : let a = c.args in append_acceptance a.measure table_of a.in_use came a.index.now a.list.now line_of ≡ (Ok tt) = sym c.check.ensures ∙ c.in_ok-check.was in
    let ready : let a = c.args in Growable table_of a.in_use came line_of a.index.now a.list.now = let a = c.args in append_passed a.measure table_of a.in_use came a.index.now a.list.now line_of accepted in
    omega (arith, ready.appendable.counted.spanned.edges)

pub overflow_add-counts-2 : goal.overflow_add-counts-2
overflow_add-counts-2 c =
    let came : Entries = let a = c.args in entries a.weights.now a.depths.now a.edges.now a.pieces.now in
    let line_of : NewLine = new_line_of c.args.line.now in
    let table_of : Columns = let a = c.args in columns a.n a.heads.now a.own.now a.strikes.now a.spans.now a.tails.now in
    let accepted : let a = c.args in append_acceptance a.measure table_of a.in_use came a.index.now a.list.now line_of ≡ (Ok tt) = sym c.check.ensures ∙ c.in_ok-check.was in
    let ready : let a = c.args in Growable table_of a.in_use came line_of a.index.now a.list.now = let a = c.args in append_passed a.measure table_of a.in_use came a.index.now a.list.now line_of accepted in
    omega (arith, ready.appendable.counted.spanned.listed, c.end_of-end.ensures)

pub renew-requires : goal.renew-requires
renew-requires c =
    let came : Entries = let a = c.args in entries a.weights.now a.depths.now a.edges.now a.pieces.now in
    let line_of : NewLine = new_line_of c.args.line.now in
    let table_of : Columns = let a = c.args in columns a.n a.heads.now a.own.now a.strikes.now a.spans.now a.tails.now in
    let accepted : let a = c.args in append_acceptance a.measure table_of a.in_use came a.index.now a.list.now line_of ≡ (Ok tt) = sym c.check.ensures ∙ c.in_ok-check.was in
    let ready : let a = c.args in Growable table_of a.in_use came line_of a.index.now a.list.now = let a = c.args in append_passed a.measure table_of a.in_use came a.index.now a.list.now line_of accepted in
    let a = c.args in
    let g = ready.appendable in
    let w = stored_at table_of a.in_use came line_of g c.end_of-end.ensures c.store_line.ensures in
    let k = counts_are table_of a.in_use came line_of g c.end_of-end.ensures in
    renewable table_of a.in_use came line_of g w k a.index.now a.list.now ready.places ready.room

pub returns : goal.returns
returns c =
    let came : Entries = let a = c.args in entries a.weights.now a.depths.now a.edges.now a.pieces.now in
    let line_of : NewLine = new_line_of c.args.line.now in
    let table_of : Columns = let a = c.args in columns a.n a.heads.now a.own.now a.strikes.now a.spans.now a.tails.now in
    let accepted : let a = c.args in append_acceptance a.measure table_of a.in_use came a.index.now a.list.now line_of ≡ (Ok tt) = sym c.check.ensures ∙ c.in_ok-check.was in
    let ready : let a = c.args in Growable table_of a.in_use came line_of a.index.now a.list.now = let a = c.args in append_passed a.measure table_of a.in_use came a.index.now a.list.now line_of accepted in
    let a = c.args in
    let g = ready.appendable in
    let w = stored_at table_of a.in_use came line_of g c.end_of-end.ensures c.store_line.ensures in
    let k = counts_are table_of a.in_use came line_of g c.end_of-end.ensures in
    let o = c.renew.ensures in
    all_grown table_of a.in_use came line_of g w k a.index.now a.list.now a.measure accepted o.0 o.1.0 o.1.1
