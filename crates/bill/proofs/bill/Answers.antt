-- `bill::bill` meets its contract: refused at the first test that fails, and else printed. Assumes nothing.
use mathlib.Core.Path.{◌≡◌, sym, ◌∙◌}
use native.Mathlib.Omega.{arith}
use Rattle.columns.specs.Columns.{Entries, Columns, columns, entries}
use Rattle.bill.specs.Billing.{part_acceptance}
use Rattle.bill.proofs.Printed.{bill_refused, bill_placed, bill_grounded, bill_few, vertex-printed}
use Rattle.refusal.proofs.Passed.{passed_on}
use Rattle.bill.proofs.bill.Goals as goal
use Rattle.std.specs.Prelude.{Ok}

pub returns-in_err-check_part : goal.returns-in_err-check_part
returns-in_err-check_part c = rw (passed_on _ c.from_residual.ensures.1) (bill_refused _ _ _ _ _ (sym c.check_part.ensures ∙ c.in_err-check_part.was))

pub offset_bounds-depths-i : goal.offset_bounds-depths-i
offset_bounds-depths-i c =
    let came : Entries = let a = c.args in entries a.entries.now.weights.now a.entries.now.depths.now a.entries.now.edges.now a.entries.now.pieces.now in
    let table_of : Columns = let a = c.args in columns a.table.now.vertices a.table.now.heads.now a.table.now.own.now a.table.now.strikes.now a.table.now.spans.now a.table.now.tails.now in
    let accepted : part_acceptance c.args.measure table_of came c.args.part.0 ≡ (Ok tt) = sym c.check_part.ensures ∙ c.in_ok-check_part.was in
    omega (arith, bill_placed c.args.measure table_of came c.args.part.0 accepted)

pub bounds-depths-i : goal.bounds-depths-i
bounds-depths-i c =
    let came : Entries = let a = c.args in entries a.entries.now.weights.now a.entries.now.depths.now a.entries.now.edges.now a.entries.now.pieces.now in
    let table_of : Columns = let a = c.args in columns a.table.now.vertices a.table.now.heads.now a.table.now.own.now a.table.now.strikes.now a.table.now.spans.now a.table.now.tails.now in
    let accepted : part_acceptance c.args.measure table_of came c.args.part.0 ≡ (Ok tt) = sym c.check_part.ensures ∙ c.in_ok-check_part.was in
    bill_placed c.args.measure table_of came c.args.part.0 accepted

pub print-requires : goal.print-requires
print-requires c =
    let came : Entries = let a = c.args in entries a.entries.now.weights.now a.entries.now.depths.now a.entries.now.edges.now a.entries.now.pieces.now in
    let table_of : Columns = let a = c.args in columns a.table.now.vertices a.table.now.heads.now a.table.now.own.now a.table.now.strikes.now a.table.now.spans.now a.table.now.tails.now in
    let accepted : part_acceptance c.args.measure table_of came c.args.part.0 ≡ (Ok tt) = sym c.check_part.ensures ∙ c.in_ok-check_part.was in
    let m = c.args.measure in
    let v = c.args.part.0 in
    (bill_grounded m table_of came v accepted, bill_few m table_of came v accepted)

pub returns : goal.returns
returns c =
    let came : Entries = let a = c.args in entries a.entries.now.weights.now a.entries.now.depths.now a.entries.now.edges.now a.entries.now.pieces.now in
    let table_of : Columns = let a = c.args in columns a.table.now.vertices a.table.now.heads.now a.table.now.own.now a.table.now.strikes.now a.table.now.spans.now a.table.now.tails.now in
    let accepted : part_acceptance c.args.measure table_of came c.args.part.0 ≡ (Ok tt) = sym c.check_part.ensures ∙ c.in_ok-check_part.was in
    c.print.ensures ∙ vertex-printed c.args.measure table_of came c.args.part.0 accepted c.args.room.now
