-- `compare::put_comparison` meets its contract, by the length of the second text and by what reading it returned. Assumes nothing.
use mathlib.Core.Path.{refl}
use Prim.Native.Nat.{◌≤◌}
use native.Mathlib.Omega.{arith}
use lib.ListN.{length}
use Rattle.columns.specs.Columns.{Entries, entries}
use Rattle.columns.specs.Given.{entries_in}
use Rattle.report.specs.Report.{most_input, most_output, read_input}
use Rattle.report.proofs.Laws.{table-lent}
use Rattle.compare.proofs.Said.{replied_as, long_said, unread_said, table_said_lem}
use Rattle.compare.proofs.put_comparison.Goals as goal

pub returns-then-second-gt-MOST_INPUT : goal.returns-then-second-gt-MOST_INPUT
returns-then-second-gt-MOST_INPUT c =
    let one : Entries = entries_in c.args.entries.now in
    replied_as _ _ _ (long_said c.args.n one c.args.second.now (let h = c.if-second-gt-MOST_INPUT.true in omega arith)) c.put_second_refusal.ensures

pub put_read-requires : goal.put_read-requires
unfolding read_input
put_read-requires c =
    let short : length c.args.second.now ≤ most_input = let h = c.if-second-gt-MOST_INPUT.false in omega arith in
    record {
      most_reply_in_bounds = c.requires.most_reply_in_bounds;
      n_le_most_vertices = c.requires.n_le_most_vertices;
      lent = table-lent c.args.second.now short _ _ _ _ _ _ c.read_table-reading.ensures _ most_output refl c.in-Ok.is;
    }

pub returns-in-Err : goal.returns-in-Err
unfolding read_input
returns-in-Err c =
    let one : Entries = entries_in c.args.entries.now in
    let short : length c.args.second.now ≤ most_input = let h = c.if-second-gt-MOST_INPUT.false in omega arith in
    replied_as _ _ _
    (unread_said c.args.n one c.args.second.now short _ _ _ _ _ _ c.read_table-reading.ensures _ c.in-Err.is)
    c.put_second_refusal-in-Err.ensures

pub returns-in-Ok : goal.returns-in-Ok
unfolding read_input
returns-in-Ok c =
    let one : Entries = entries_in c.args.entries.now in
    let short : length c.args.second.now ≤ most_input = let h = c.if-second-gt-MOST_INPUT.false in omega arith in
    replied_as _ _ _
    (table_said_lem c.args.n one c.args.second.now short _ _ _ _ _ _ c.read_table-reading.ensures _ c.in-Ok.is)
    c.put_read.ensures
