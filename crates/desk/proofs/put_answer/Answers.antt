-- `desk::put_answer` meets its contract, by what is asked of the answers. Assumes nothing.
use lib.ListN.{length}
use Rattle.columns.specs.Columns.{Entries, Columns, columns, entries}
use Rattle.desk.proofs.Laws.{replied_as, few_parts, list_fits, price_said, bill_said_lem, reprice_said, strike_said, restore_said, compare_said, replay_said_lem}
use Rattle.desk.proofs.put_answer.Goals as goal

pub put_entries-requires : goal.put_entries-requires
put_entries-requires c =
    let came : Entries = let a = c.args in entries a.weights.now a.depths.now a.edges.now a.pieces.now in
    let table_of : Columns = let a = c.args in columns a.n a.heads.now a.own.now a.strikes.now a.spans.now a.tails.now in
    list_fits c.args.measure table_of came (length c.args.room.now) c.requires

pub put_comparison-requires : goal.put_comparison-requires
put_comparison-requires c =
    let came : Entries = let a = c.args in entries a.weights.now a.depths.now a.edges.now a.pieces.now in
    let table_of : Columns = let a = c.args in columns a.n a.heads.now a.own.now a.strikes.now a.spans.now a.tails.now in
    record { most_reply_in_bounds = c.requires.large; n_le_most_vertices = few_parts c.args.measure table_of came (length c.args.room.now) c.requires }

-- what could be left to find is given: filled in, each would be a path counted out
pub returns-in-Price : goal.returns-in-Price
returns-in-Price c =
    let came : Entries = let a = c.args in entries a.weights.now a.depths.now a.edges.now a.pieces.now in
    let table_of : Columns = let a = c.args in columns a.n a.heads.now a.own.now a.strikes.now a.spans.now a.tails.now in
    replied_as c.args.room.now _ c.put_entries.new.room (price_said c.args.second.now c.args.question c.args.measure table_of came
    (length c.args.room.now) c.in-Price.is c.requires) c.put_entries.ensures

pub returns-in-Bill : goal.returns-in-Bill
returns-in-Bill c =
    let came : Entries = let a = c.args in entries a.weights.now a.depths.now a.edges.now a.pieces.now in
    let table_of : Columns = let a = c.args in columns a.n a.heads.now a.own.now a.strikes.now a.spans.now a.tails.now in
    replied_as c.args.room.now _ c.put_bill.new.room (bill_said_lem c.args.second.now c.args.question c.args.measure table_of came
    c.in-Bill.v c.in-Bill.is) c.put_bill.ensures

pub returns-in-Reprice : goal.returns-in-Reprice
returns-in-Reprice c =
    let came : Entries = let a = c.args in entries a.weights.now a.depths.now a.edges.now a.pieces.now in
    let table_of : Columns = let a = c.args in columns a.n a.heads.now a.own.now a.strikes.now a.spans.now a.tails.now in
    replied_as c.args.room.now _ c.put_repriced.new.room
    (reprice_said c.args.second.now c.args.question c.args.measure table_of came _ _ c.in-Reprice.is) c.put_repriced.ensures

pub returns-in-Strike : goal.returns-in-Strike
returns-in-Strike c =
    let came : Entries = let a = c.args in entries a.weights.now a.depths.now a.edges.now a.pieces.now in
    let table_of : Columns = let a = c.args in columns a.n a.heads.now a.own.now a.strikes.now a.spans.now a.tails.now in
    replied_as c.args.room.now _ c.put_stricken.new.room (strike_said c.args.second.now c.args.question c.args.measure table_of came
    c.in-Strike.e c.in-Strike.is) c.put_stricken.ensures

pub returns-in-Restore : goal.returns-in-Restore
returns-in-Restore c =
    let came : Entries = let a = c.args in entries a.weights.now a.depths.now a.edges.now a.pieces.now in
    let table_of : Columns = let a = c.args in columns a.n a.heads.now a.own.now a.strikes.now a.spans.now a.tails.now in
    replied_as c.args.room.now _ c.put_restored.new.room (restore_said c.args.second.now c.args.question c.args.measure table_of came
    c.in-Restore.e c.in-Restore.is) c.put_restored.ensures

pub returns-in-Compare : goal.returns-in-Compare
returns-in-Compare c =
    let came : Entries = let a = c.args in entries a.weights.now a.depths.now a.edges.now a.pieces.now in
    let table_of : Columns = let a = c.args in columns a.n a.heads.now a.own.now a.strikes.now a.spans.now a.tails.now in
    replied_as c.args.room.now _ c.put_comparison.new.room
    (compare_said c.args.second.now c.args.question c.args.measure table_of came c.in-Compare.is) c.put_comparison.ensures

pub returns-in-Replay : goal.returns-in-Replay
returns-in-Replay c =
    let came : Entries = let a = c.args in entries a.weights.now a.depths.now a.edges.now a.pieces.now in
    let table_of : Columns = let a = c.args in columns a.n a.heads.now a.own.now a.strikes.now a.spans.now a.tails.now in
    replied_as c.args.room.now _ c.put_replay.new.room
    (replay_said_lem c.args.second.now c.args.question c.args.measure table_of came c.in-Replay.is) c.put_replay.ensures
