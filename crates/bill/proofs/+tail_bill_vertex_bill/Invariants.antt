-- `bill::vertex_bill` and `bill::tail_bill` meet their contracts: the root is written, and behind it the bills of the tail: a bought part's line at once, the bill
-- of a part listed again as a copy, each other bill into what remains of the room. Depth falls from a part to its tail. Assumes nothing.
use Prim.Native.Nat.{◌+◌, ◌*◌}
use Rattle.bill.specs.Walk.{TailWritten}
use Rattle.bill.proofs.+tail_bill_vertex_bill.Given as goal

-- a tail calls at its own depth, a vertex at one less
abbrev pub decreases-tail_bill : goal.decreases-tail_bill
decreases-tail_bill l = 2 * l.depth + 1

abbrev pub decreases-vertex_bill : goal.decreases-vertex_bill
decreases-vertex_bill l = 2 * l.depth

-- the bills of the parts up to i are written from the start on, and reach to `at`; the last of them, if no bought part's, is `length` long
abbrev pub invariant-tail_bill-loop-i : goal.invariant-tail_bill-loop-i
invariant-tail_bill-loop-i l = TailWritten l.spans l.tails l.edges l.depth l.tail l.filled l.initial.room l.i l.length l.at l.room
