-- `report::report` meets its contract, by the length of the input and by what reading it returned. Assumes nothing.
use mathlib.Core.Path.{◌≡◌}
use Prim.Native.Nat.{◌≤◌}
use native.Mathlib.Omega.{arith}
use borrow.Author.Rules.{rules}
use lib.ListN.{length}
use Rattle.refusal.specs.declared.Refusal.TheVariants.{InputLength}
use Rattle.settle.specs.Settling.{settled}
use Rattle.report.specs.Report.{most_input, refused_line, priced, read_input, report, blank_entries}
use Rattle.report.specs.Pieces.{lent_columns}
use Rattle.report.proofs.Reports.{report_long}
use Rattle.report.proofs.Laws.{reported, report_refused, report-table, table-lent}
use Rattle.report.proofs.report.Goals as goal

pub returns-then-input-gt-MOST_INPUT : goal.returns-then-input-gt-MOST_INPUT
returns-then-input-gt-MOST_INPUT c =
    let long : report c.args.input.now ≡ refused_line InputLength = report_long c.args.input.now (let h = c.if-input-gt-MOST_INPUT.true in omega arith) in
    let r = reported _ _ _ _ _ long c.put_refused.ensures in
    record { value = r.0; room_after = r.1 }

pub returns-in-Err : goal.returns-in-Err
unfolding read_input
returns-in-Err c =
    let short : length c.args.input.now ≤ most_input = let h = c.if-input-gt-MOST_INPUT.false in omega arith in
    let wrong : report c.args.input.now ≡ refused_line c.in-Err.r = report_refused _ short _ _ _ _ _ _ c.read_table-reading.ensures _ c.in-Err.is in
    let r = reported _ _ _ _ _ wrong c.put_refused-in-Err.ensures in
    record { value = r.0; room_after = r.1 }

pub put_read-requires : goal.put_read-requires
unfolding read_input
put_read-requires c =
    let short : length c.args.input.now ≤ most_input = let h = c.if-input-gt-MOST_INPUT.false in omega arith in
    table-lent _ short _ _ _ _ _ _
    c.read_table-reading.ensures _ _ (search rules) c.in-Ok.is

pub returns-in-Ok : goal.returns-in-Ok
unfolding read_input
returns-in-Ok c =
    let short : length c.args.input.now ≤ most_input = let h = c.if-input-gt-MOST_INPUT.false in omega arith in
    let whole : let g = c.in-Ok.header in let l = c.read_table-reading.new in report c.args.input.now ≡ priced g.vertices (settled g.measure (lent_columns g l.heads l.own l.strikes l.spans l.tails) (blank_entries g.vertices)) = report-table _ short _ _ _ _ _ _ c.read_table-reading.ensures _ c.in-Ok.is in
    let r = reported _ _ _ _ _ whole c.put_read.ensures in
    record { value = r.0; room_after = r.1 }
