-- `ledger::put_replay` meets its contract, by what reading the record returned. Assumes nothing.
use mathlib.Core.Path.{sym, ◌∙◌}
use Prim.Native.Nat.{ℕ, ◌≤◌}
use native.Mathlib.Omega.{arith}
use lib.ListN.{length, replicate, length-replicate}
use lib.Seq.{length-take-le}
use Rattle.columns.specs.Columns.{Entries, Columns, columns, entries}
use Rattle.inventory.specs.Shelf.{most_events}
use Rattle.ledger.proofs.Said.{said_as, said_long, said_refused, said_read, read_within}
use Rattle.ledger.proofs.put_replay.Goals as goal

pub returns-then-second-gt-MOST_INPUT : goal.returns-then-second-gt-MOST_INPUT
returns-then-second-gt-MOST_INPUT c =
    let came : Entries = let a = c.args in entries a.entries.now.weights.now a.entries.now.depths.now a.entries.now.edges.now a.entries.now.pieces.now in
    let table_of : Columns = let a = c.args in columns a.table.now.vertices a.table.now.heads.now a.table.now.own.now a.table.now.strikes.now a.table.now.spans.now a.table.now.tails.now in
    said_as _ _ _ (said_long c.args.measure table_of came c.args.second.now c.if-second-gt-MOST_INPUT.true) c.put_second_refusal.ensures

pub slice_bounds-parts-end : goal.slice_bounds-parts-end
slice_bounds-parts-end c =
    let e-of : ℕ = c.in-Ok.e in
    let k-of : ℕ = c.in-Ok.k in
    let within = read_within c.args.second.now _ _ _ _ c.read_record-read.ensures _ _ c.in-Ok.is in
    within.parted

pub slice_bounds-received-end : goal.slice_bounds-received-end
slice_bounds-received-end c =
    let e-of : ℕ = c.in-Ok.e in
    let k-of : ℕ = c.in-Ok.k in
    let within = read_within c.args.second.now _ _ _ _ c.read_record-read.ensures _ _ c.in-Ok.is in
    within.pieced

pub slice_bounds-shelf-end : goal.slice_bounds-shelf-end
slice_bounds-shelf-end c =
    let e-of : ℕ = c.in-Ok.e in
    let k-of : ℕ = c.in-Ok.k in
    let within = read_within c.args.second.now _ _ _ _ c.read_record-read.ensures _ _ c.in-Ok.is in
    within.counted

pub slice_bounds-outcomes-end : goal.slice_bounds-outcomes-end
slice_bounds-outcomes-end c =
    let e-of : ℕ = c.in-Ok.e in
    let k-of : ℕ = c.in-Ok.k in
    let within = read_within c.args.second.now _ _ _ _ c.read_record-read.ensures _ _ c.in-Ok.is in
    let w = within.few_events in let l = length-replicate {A = ℕ} most_events 0 in omega arith

pub slice_bounds-put_replayed-end : goal.slice_bounds-put_replayed-end
slice_bounds-put_replayed-end c =
    let within = read_within c.args.second.now _ _ _ _ c.read_record-read.ensures _ _ c.in-Ok.is in
    sym (length-take-le _ _ within.parted)

pub slice_bounds-put_replayed-end-in-Ok : goal.slice_bounds-put_replayed-end-in-Ok
slice_bounds-put_replayed-end-in-Ok c =
    let within = read_within c.args.second.now _ _ _ _ c.read_record-read.ensures _ _ c.in-Ok.is in
    sym (length-take-le _ _ within.pieced)

pub slice_bounds-put_replayed-end-in-Ok-2 : goal.slice_bounds-put_replayed-end-in-Ok-2
slice_bounds-put_replayed-end-in-Ok-2 c =
    let within = read_within c.args.second.now _ _ _ _ c.read_record-read.ensures _ _ c.in-Ok.is in
    sym (length-take-le _ _ within.counted)

pub slice_bounds-put_replayed-end-in-Ok-3 : goal.slice_bounds-put_replayed-end-in-Ok-3
slice_bounds-put_replayed-end-in-Ok-3 c =
    let within = read_within c.args.second.now _ _ _ _ c.read_record-read.ensures _ _ c.in-Ok.is in
    let few : c.in-Ok.e ≤ length (replicate {A = ℕ} most_events 0) = let w = within.few_events in let l = length-replicate {A = ℕ} most_events 0 in omega arith in
    sym (length-take-le _ _ few)

pub put_replayed-requires : goal.put_replayed-requires
put_replayed-requires c =
    let within = read_within c.args.second.now _ _ _ _ c.read_record-read.ensures _ _ c.in-Ok.is in
    let few : c.in-Ok.e ≤ length (replicate {A = ℕ} most_events 0) = let w = within.few_events in let l = length-replicate {A = ℕ} most_events 0 in omega arith in
    let o = length-take-le c.in-Ok.e (replicate {A = ℕ} most_events 0) few in
    let v = length-take-le c.in-Ok.e c.read_record-read.new.parts within.parted in
    let s = length-take-le c.in-Ok.k c.read_record-read.new.shelf within.counted in
    let e = within.few_events in
    let k = within.few_counts in
    (o ∙ sym v, omega arith, omega arith, c.requires)

pub returns-in-Err : goal.returns-in-Err
returns-in-Err c =
    let came : Entries = let a = c.args in entries a.entries.now.weights.now a.entries.now.depths.now a.entries.now.edges.now a.entries.now.pieces.now in
    let table_of : Columns = let a = c.args in columns a.table.now.vertices a.table.now.heads.now a.table.now.own.now a.table.now.strikes.now a.table.now.spans.now a.table.now.tails.now in
    let q = said_refused c.args.second.now _ _ _ _ c.read_record-read.ensures c.args.measure table_of came c.if-second-gt-MOST_INPUT.false _ c.in-Err.is in
    said_as _ _ _ q c.put_second_refusal-in-Err.ensures

pub returns-in-Ok : goal.returns-in-Ok
returns-in-Ok c =
    let came : Entries = let a = c.args in entries a.entries.now.weights.now a.entries.now.depths.now a.entries.now.edges.now a.entries.now.pieces.now in
    let table_of : Columns = let a = c.args in columns a.table.now.vertices a.table.now.heads.now a.table.now.own.now a.table.now.strikes.now a.table.now.spans.now a.table.now.tails.now in
    let q = said_read c.args.second.now _ _ _ _ c.read_record-read.ensures c.args.measure table_of came c.if-second-gt-MOST_INPUT.false _ _ c.in-Ok.is in
    said_as _ _ _ q c.put_replayed.ensures
