-- `indextable::check_index` meets its contract: the rooms are long enough for any accepted table. Assumes nothing.
use mathlib.Core.Path.{sym}
use Prim.Native.Nat.{◌*◌, ◌≤◌}
use native.Mathlib.Omega.{arith}
use lib.Seq.{length-take-le}
use Rattle.indextable.proofs.Holds.{checkable_held, held_room}
use Rattle.indextable.proofs.check_index.Goals as goal

pub overflow_mul-places : goal.overflow_mul-places
overflow_mul-places c = omega (arith, c.requires.few)

pub slice_bounds-room-end : goal.slice_bounds-room-end
slice_bounds-room-end c = omega (arith, c.requires.few)

pub slice_bounds-held_with-end : goal.slice_bounds-held_with-end
slice_bounds-held_with-end c =
    let few : 2 * c.args.n ≤ 2048 = omega (arith, c.requires.few) in
    sym (length-take-le _ _ few)

pub held_with-requires : goal.held_with-requires
held_with-requires c =
    let few : 2 * c.args.n ≤ 2048 = omega (arith, c.requires.few) in
    checkable_held c.requires _ _ few (omega arith)

pub returns : goal.returns
returns c =
    let few : 2 * c.args.n ≤ 2048 = omega (arith, c.requires.few) in
    held_room _ _ c.args.n _ _ few _ _ c.held_with.ensures
