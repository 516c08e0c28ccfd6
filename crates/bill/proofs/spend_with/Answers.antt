-- `bill::spend_with` meets its contract: no length is known at first. Assumes nothing.
use native.Mathlib.Omega.{arith}
use Rattle.bill.proofs.Lengths.{known_none}
use Rattle.bill.proofs.spend_with.Goals as goal

pub whole_as_slice-vertex_spend : goal.whole_as_slice-vertex_spend
whole_as_slice-vertex_spend g c = omega (arith, c.requires.2)

pub vertex_spend-requires : goal.vertex_spend-requires
vertex_spend-requires g c = (c.requires.0, known_none _ _ _ g.row.N c.requires.1)
