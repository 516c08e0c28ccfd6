-- `ledger::put_replayed` meets its contract, by what replaying returned. Assumes nothing.
use mathlib.Core.Path.{refl}
use Rattle.columns.specs.Columns.{Entries, Columns, columns, entries}
use Rattle.ledger.proofs.Said.{said_as, replay_refused, replay_answered}
use Rattle.ledger.proofs.put_replayed.Goals as goal

pub returns-in-Err : goal.returns-in-Err
returns-in-Err c =
    let came : Entries = let a = c.args in entries a.entries.now.weights.now a.entries.now.depths.now a.entries.now.edges.now a.entries.now.pieces.now in
    let table_of : Columns = let a = c.args in columns a.table.now.vertices a.table.now.heads.now a.table.now.own.now a.table.now.strikes.now a.table.now.spans.now a.table.now.tails.now in
    let a = c.args in
    let q = replay_refused a.measure table_of came a.parts.now a.received.now a.stock.now a.outcomes.now _ _ _ c.replay-a.ensures _ c.in-Err.is in
    said_as _ _ _ q c.put_second_refusal.ensures

pub returns-in-Ok : goal.returns-in-Ok
returns-in-Ok c =
    let came : Entries = let a = c.args in entries a.entries.now.weights.now a.entries.now.depths.now a.entries.now.edges.now a.entries.now.pieces.now in
    let table_of : Columns = let a = c.args in columns a.table.now.vertices a.table.now.heads.now a.table.now.own.now a.table.now.strikes.now a.table.now.spans.now a.table.now.tails.now in
    let a = c.args in
    let q = replay_answered a.measure table_of came a.parts.now a.received.now a.stock.now a.outcomes.now _ _ _ c.replay-a.ensures c.in-Ok.is in
    said_as _ _ _ q (record { status = refl; written = c.put_ledger-width.ensures })
