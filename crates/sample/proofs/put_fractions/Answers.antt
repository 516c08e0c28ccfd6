-- `sample::put_fractions` meets its contract: one line, and the other in the room behind it. Assumes nothing.
use Prim.Native.Nat.{◌+◌, ◌≤◌}
use native.Mathlib.Omega.{arith}
use lib.ListN.{length}
use Rattle.reply.proofs.Room.{behind_starts, behind_room, written_behind}
use Rattle.sample.specs.Sample.{most_fraction}
use Rattle.sample.proofs.put_fractions.Goals as goal

pub put_fraction-at-requires : goal.put_fraction-at-requires
put_fraction-at-requires c = let p = c.requires in omega arith

pub slice_bounds-put_fraction-count : goal.slice_bounds-put_fraction-count
slice_bounds-put_fraction-count c =
    let left : c.put_fraction-at.result + most_fraction ≤ length c.args.room.now = let a = c.put_fraction-at.ensures.upper_bound in let p = c.requires in omega arith in
    behind_starts _ _ _ _ c.put_fraction-at.ensures.written most_fraction left

pub put_fraction-width-requires : goal.put_fraction-width-requires
put_fraction-width-requires c =
    let left : c.put_fraction-at.result + most_fraction ≤ length c.args.room.now = let a = c.put_fraction-at.ensures.upper_bound in let p = c.requires in omega arith in
    behind_room _ _ _ _ c.put_fraction-at.ensures.written most_fraction left

pub returns : goal.returns
returns c =
    let left : c.put_fraction-at.result + most_fraction ≤ length c.args.room.now = let a = c.put_fraction-at.ensures.upper_bound in let p = c.requires in omega arith in
    written_behind _ _ _ _ c.put_fraction-at.ensures.written most_fraction left _ _ _ c.put_fraction-width.ensures.upper_bound c.put_fraction-width.ensures.written
