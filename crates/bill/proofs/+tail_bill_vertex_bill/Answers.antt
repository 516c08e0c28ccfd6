use mathlib.Core.Path.{refl}
use native.Mathlib.Omega.{arith}
use Rattle.bill.proofs.Walks.{grounded}
use Rattle.bill.proofs.Rooms.{root_fits, below_fits, vertex_written, none_written, room_kept, reached_within, all_written}
use Rattle.bill.proofs.Rooms.{next-below, line_within, line_written, next_fits, next_reached, next_written, again_fits, again_written}
use Rattle.bill.proofs.+tail_bill_vertex_bill.Goals as goal

pub tail_bill-loop-i-init : goal.tail_bill-loop-i-init
tail_bill-loop-i-init t c = none_written c.requires 0

-- the part of a turn is grounded
pub tail_bill-offset_bounds-edges-v : goal.tail_bill-offset_bounds-edges-v
tail_bill-offset_bounds-edges-v t c = omega (arith, (next-below c.requires c.loop-i.i c.loop-i-test.true).vertex)

pub tail_bill-bounds-edges-v : goal.tail_bill-bounds-edges-v
tail_bill-bounds-edges-v t c = (next-below c.requires c.loop-i.i c.loop-i-test.true).vertex

pub tail_bill-overflow_mul-listed : goal.tail_bill-overflow_mul-listed
tail_bill-overflow_mul-listed t c = omega (arith, (next-below c.requires c.loop-i.i c.loop-i-test.true).placed.span)

pub tail_bill-overflow_add-listed : goal.tail_bill-overflow_add-listed
tail_bill-overflow_add-listed t c = omega (arith, (next-below c.requires c.loop-i.i c.loop-i-test.true).placed.span)

pub tail_bill-offset_bounds-spans-e : goal.tail_bill-offset_bounds-spans-e
tail_bill-offset_bounds-spans-e t c = omega (arith, (next-below c.requires c.loop-i.i c.loop-i-test.true).placed.span)

pub tail_bill-bounds-spans-e : goal.tail_bill-bounds-spans-e
tail_bill-bounds-spans-e t c = (next-below c.requires c.loop-i.i c.loop-i-test.true).placed.span

pub tail_bill-offset_bounds-room-at : goal.tail_bill-offset_bounds-room-at
tail_bill-offset_bounds-room-at t c =
    omega (arith, line_within c.requires c.loop-i.invariant c.loop-i-test.true, room_kept c.requires c.loop-i.invariant)

pub tail_bill-bounds-room-at : goal.tail_bill-bounds-room-at
tail_bill-bounds-room-at t c = line_within c.requires c.loop-i.invariant c.loop-i-test.true

pub tail_bill-overflow_add-at : goal.tail_bill-overflow_add-at
tail_bill-overflow_add-at t c =
    omega (arith, line_within c.requires c.loop-i.invariant c.loop-i-test.true, room_kept c.requires c.loop-i.invariant)

pub tail_bill-loop-i-preserved-then-listed-eq0 : goal.tail_bill-loop-i-preserved-then-listed-eq0
tail_bill-loop-i-preserved-then-listed-eq0 t c = line_written c.requires c.loop-i.invariant c.loop-i-test.true c.if-listed-eq0.true

pub tail_bill-repeat-at-requires : goal.tail_bill-repeat-at-requires
tail_bill-repeat-at-requires t c =
    again_fits c.requires c.loop-i.invariant c.loop-i-test.true c.if-i-gt0.true c.if-before-v.true c.if-listed-eq0.false

pub tail_bill-loop-i-preserved-then-before-v : goal.tail_bill-loop-i-preserved-then-before-v
tail_bill-loop-i-preserved-then-before-v t c =
    again_written c.requires c.loop-i.invariant c.loop-i-test.true c.if-i-gt0.true c.if-before-v.true c.if-listed-eq0.false c.repeat-at.ensures

pub tail_bill-offset_bounds-room-at-in-loop-i : goal.tail_bill-offset_bounds-room-at-in-loop-i
tail_bill-offset_bounds-room-at-in-loop-i t c = omega (arith, reached_within c.requires c.loop-i.invariant, room_kept c.requires c.loop-i.invariant)

pub tail_bill-slice_bounds-vertex_bill-count : goal.tail_bill-slice_bounds-vertex_bill-count
tail_bill-slice_bounds-vertex_bill-count t c = reached_within c.requires c.loop-i.invariant

pub tail_bill-slice_bounds-vertex_bill-start : goal.tail_bill-slice_bounds-vertex_bill-start
tail_bill-slice_bounds-vertex_bill-start t c = reached_within c.requires c.loop-i.invariant

pub tail_bill-vertex_bill-length-requires : goal.tail_bill-vertex_bill-length-requires
tail_bill-vertex_bill-length-requires t c = (omega (arith, c.decreases), next_fits c.requires c.loop-i.invariant c.loop-i-test.true)

pub tail_bill-overflow_add-at-in-loop-i : goal.tail_bill-overflow_add-at-in-loop-i
tail_bill-overflow_add-at-in-loop-i t c =
    omega (arith, next_reached c.requires c.loop-i.invariant c.loop-i-test.true c.vertex_bill-length.ensures, room_kept c.requires c.loop-i.invariant)

pub tail_bill-loop-i-preserved : goal.tail_bill-loop-i-preserved
tail_bill-loop-i-preserved t c = next_written c.requires c.loop-i.invariant c.loop-i-test.true c.vertex_bill-length.ensures

pub tail_bill-returns : goal.tail_bill-returns
tail_bill-returns t c = all_written c.requires c.loop-i.invariant c.loop-i-test.false

pub vertex_bill-offset_bounds-edges-i : goal.vertex_bill-offset_bounds-edges-i
vertex_bill-offset_bounds-edges-i t c = omega (arith, (grounded _ _ _ _ _ c.requires.grounded).vertex)

pub vertex_bill-bounds-edges-i : goal.vertex_bill-bounds-edges-i
vertex_bill-bounds-edges-i t c = (grounded _ _ _ _ _ c.requires.grounded).vertex

pub vertex_bill-bounds-room-0 : goal.vertex_bill-bounds-room-0
vertex_bill-bounds-room-0 t c = root_fits c.requires refl

pub vertex_bill-tail_of-tail-requires : goal.vertex_bill-tail_of-tail-requires
vertex_bill-tail_of-tail-requires t c = (grounded _ _ _ _ _ c.requires.grounded).placed

pub vertex_bill-overflow_sub-depth : goal.vertex_bill-overflow_sub-depth
vertex_bill-overflow_sub-depth t c = (grounded _ _ _ _ _ c.requires.grounded).deep

pub vertex_bill-tail_bill-requires : goal.vertex_bill-tail_bill-requires
vertex_bill-tail_bill-requires t c =
    (omega (arith, c.decreases, (grounded _ _ _ _ _ c.requires.grounded).deep), below_fits c.requires c.tail_of-tail.ensures)

pub vertex_bill-returns : goal.vertex_bill-returns
vertex_bill-returns t c = vertex_written c.requires c.tail_of-tail.ensures c.tail_bill.ensures
