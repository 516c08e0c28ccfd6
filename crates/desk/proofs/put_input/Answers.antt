-- `desk::put_input` meets its contract, by the length of the input and by what reading it returned. Assumes nothing.
use Prim.Native.Nat.{◌≤◌}
use native.Mathlib.Omega.{arith}
use lib.ListN.{length}
use Rattle.report.specs.Report.{most_input, read_input}
use Rattle.desk.proofs.Laws.{replied_as, long_said, unread_said, table_said_lem, input_stands}
use Rattle.desk.proofs.put_input.Goals as goal

pub returns-then-input-gt-MOST_INPUT : goal.returns-then-input-gt-MOST_INPUT
returns-then-input-gt-MOST_INPUT c =
    replied_as _ _ _
    (long_said c.args.second.now c.args.command c.args.count c.args.numbers.now c.args.input.now (let h = c.if-input-gt-MOST_INPUT.true in omega arith))
    c.put_refusal.ensures

pub put_command-requires : goal.put_command-requires
unfolding read_input
put_command-requires c =
    let short : length c.args.input.now ≤ most_input = let h = c.if-input-gt-MOST_INPUT.false in omega arith in
    record {
      most_reply_in_bounds = c.requires.most_reply_in_bounds;
      stands = input_stands c.args.input.now short _ _ _ _ _ _ c.read_table-reading.ensures _ c.in-Ok.is;
      takes = c.requires.takes;
    }

pub returns-in-Err : goal.returns-in-Err
unfolding read_input
returns-in-Err c =
    let short : length c.args.input.now ≤ most_input = let h = c.if-input-gt-MOST_INPUT.false in omega arith in
    replied_as _ _ _
    (unread_said c.args.second.now c.args.command c.args.count c.args.numbers.now c.args.input.now short _ _ _ _ _ _ c.read_table-reading.ensures _ c.in-Err.is)
    c.put_refusal-in-Err.ensures

pub returns-in-Ok : goal.returns-in-Ok
unfolding read_input
returns-in-Ok c =
    let short : length c.args.input.now ≤ most_input = let h = c.if-input-gt-MOST_INPUT.false in omega arith in
    replied_as _ _ _
    (table_said_lem c.args.second.now c.args.command c.args.count c.args.numbers.now c.args.input.now short _ _ _ _ _ _ c.read_table-reading.ensures _ c.in-Ok.is)
    c.put_command.ensures
