-- `append::check_room` meets its contract: the first test that fails gives the refusal. Assumes nothing.
use Prim.Native.Nat.{◌+◌, ◌≤◌, ◌<◌}
use native.Mathlib.Omega.{arith}
use lib.ListN.{length}
use Rattle.columns.specs.Longer.{end_in}
use Rattle.append.specs.Appending.{room_acceptance}
use Rattle.append.proofs.Checks.{tests}
use Rattle.append.proofs.check_room.Goals as goal

pub returns-then-lines-heads : goal.returns-then-lines-heads
unfolding room_acceptance
returns-then-lines-heads c = search tests

pub returns-then-lines-own : goal.returns-then-lines-own
unfolding room_acceptance
returns-then-lines-own c = search tests

pub returns-then-lines-strikes : goal.returns-then-lines-strikes
unfolding room_acceptance
returns-then-lines-strikes c = search tests

pub returns-then-lines-spans : goal.returns-then-lines-spans
unfolding room_acceptance
returns-then-lines-spans c = search tests

pub end_of-end-requires : goal.end_of-end-requires
end_of-end-requires c = (c.requires.spans, omega (arith, c.requires.listed))

pub overflow_add-end : goal.overflow_add-end
overflow_add-end c = omega (arith, c.end_of-end.ensures, c.requires.listed)

pub returns-then-end-size : goal.returns-then-end-size
unfolding room_acceptance
returns-then-end-size c =
    let a = c.args in
    let h : length a.table.now.tails.now < end_in a.table.now.spans.now a.lines + a.size = omega (arith, c.end_of-end.ensures, c.if-end-size.true) in
    search tests

pub returns : goal.returns
unfolding room_acceptance
returns c =
    let a = c.args in
    let h : end_in a.table.now.spans.now a.lines + a.size ≤ length a.table.now.tails.now = omega (arith, c.end_of-end.ensures, c.if-end-size.false) in
    search tests
