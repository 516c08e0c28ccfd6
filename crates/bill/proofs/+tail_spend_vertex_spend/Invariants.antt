-- `bill::vertex_spend` and `bill::tail_spend` meet their contracts: a budget pays for a bill whose length is known at once, and else for the root, then for the bills of
-- the tail one after the other: of a bought part for its line. Depth falls from a part to its tail. Assumes nothing.
use Rattle.std.specs.Prelude.{Some}
use mathlib.Core.Path.{◌≡◌}
use Prim.Native.Nat.{◌+◌, ◌*◌}
use lib.ListN.{length, take}
use Rattle.bill.specs.Walk.{tail_bill, KnownStill, spend}
use Rattle.bill.proofs.+tail_spend_vertex_spend.Given as goal

-- a tail calls at its own depth, a vertex at one less
abbrev pub decreases-tail_spend : goal.decreases-tail_spend
decreases-tail_spend l = 2 * l.depth + 1

abbrev pub decreases-vertex_spend : goal.decreases-vertex_spend
decreases-vertex_spend l = 2 * l.depth

-- the parts so far are paid, `left` is what they leave, and the column of lengths is right
abbrev pub invariant-tail_spend-loop-v : goal.invariant-tail_spend-loop-v
invariant-tail_spend-loop-v l = (Some l.left ≡ spend l.budget (length (tail_bill l.spans l.tails l.edges l.depth (take l.v-index l.tail)))) × KnownStill l.spans l.tails l.edges l.initial.lengths l.lengths
