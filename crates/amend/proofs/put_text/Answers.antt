-- `amend::put_text` meets its contract, by what writing returned. Assumes nothing.
use mathlib.Core.Path.{sym, ap}
use Prim.Native.Nat.{◌≤◌}
use native.Mathlib.Omega.{arith}
use lib.ListN.{length}
use lib.Seq.{length-take-le}
use Rattle.report.specs.Report.{most_input}
use Rattle.amend.proofs.Laws.{replied_as, text_refused, room_kept, text_replied}
use Rattle.amend.proofs.put_text.Goals as goal

pub slice_bounds-write_table-end-2 : goal.slice_bounds-write_table-end-2
slice_bounds-write_table-end-2 c =
    let large : most_input ≤ length c.args.room.now = omega (arith, c.requires) in
    sym (length-take-le most_input c.args.room.now large)

pub put_refusal-requires : goal.put_refusal-requires
put_refusal-requires c =
    let large : most_input ≤ length c.args.room.now = omega (arith, c.requires) in
    let k = ap length (room_kept _ _ c.args.room.now large _ _ c.write_table-extent.ensures _ c.in-Err.is) in
    omega (arith, k, c.requires)

pub returns-in-Err : goal.returns-in-Err
returns-in-Err c =
    let large : most_input ≤ length c.args.room.now = omega (arith, c.requires) in
    let q = c.write_table-extent.ensures in
    let e = c.in-Err.is in
    replied_as (text_refused _ _ c.args.room.now large _ _ q _ e) (room_kept _ _ c.args.room.now large _ _ q _ e) c.put_refusal.ensures

pub shape_of-room-in-Err : goal.shape_of-room-in-Err
shape_of-room-in-Err c = (returns-in-Err c).written.long

pub returns-in-Ok : goal.returns-in-Ok
returns-in-Ok c =
    let large : most_input ≤ length c.args.room.now = omega (arith, c.requires) in
    text_replied _ _ c.args.room.now large _ _ c.write_table-extent.ensures _ c.in-Ok.is
