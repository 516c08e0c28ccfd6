-- `desk::put_settled` meets its contract, by what settling returned. Assumes nothing.
use lib.ListN.{length}
use Rattle.columns.specs.Columns.{Entries, Columns, columns, entries}
use Rattle.reply.specs.Reply.{Said}
use Rattle.desk.specs.Desk.{answer_said}
use Rattle.desk.proofs.Laws.{replied_as, settled_refused, settled_accepted, settled_holds}
use Rattle.desk.proofs.put_settled.Goals as goal

-- what could be left to find is given: filled in, each would be a path counted out
pub returns-in-Err : goal.returns-in-Err
returns-in-Err c =
    let came : Entries = let a = c.args in entries a.weights.now a.depths.now a.edges.now a.pieces.now in
    let left : Entries = entries c.settle-answer.new.weights c.settle-answer.new.depths c.settle-answer.new.edges c.settle-answer.new.pieces in
    let table_of : Columns = let a = c.args in columns a.n a.heads.now a.own.now a.strikes.now a.spans.now a.tails.now in
    let said_of : Entries → Said = answer_said c.args.second.now c.args.question c.args.measure table_of in
    replied_as c.args.room.now _ c.put_refusal.new.room
    (settled_refused c.args.measure table_of came c.settle-answer.result left c.settle-answer.ensures said_of c.in-Err.r c.in-Err.is) c.put_refusal.ensures

pub put_answer-requires : goal.put_answer-requires
put_answer-requires c =
    let came : Entries = let a = c.args in entries a.weights.now a.depths.now a.edges.now a.pieces.now in
    let left : Entries = entries c.settle-answer.new.weights c.settle-answer.new.depths c.settle-answer.new.edges c.settle-answer.new.pieces in
    let table_of : Columns = let a = c.args in columns a.n a.heads.now a.own.now a.strikes.now a.spans.now a.tails.now in
    settled_holds c.args.measure table_of came c.settle-answer.result left c.settle-answer.ensures (length c.args.room.now) c.in-Ok.is c.requires

pub returns : goal.returns
returns c =
    let came : Entries = let a = c.args in entries a.weights.now a.depths.now a.edges.now a.pieces.now in
    let left : Entries = entries c.settle-answer.new.weights c.settle-answer.new.depths c.settle-answer.new.edges c.settle-answer.new.pieces in
    let table_of : Columns = let a = c.args in columns a.n a.heads.now a.own.now a.strikes.now a.spans.now a.tails.now in
    let said_of : Entries → Said = answer_said c.args.second.now c.args.question c.args.measure table_of in
    replied_as c.args.room.now _ c.put_answer.new.room (settled_accepted c.args.measure table_of came c.settle-answer.result left
    c.settle-answer.ensures said_of c.in-Ok.is) c.put_answer.ensures
