-- `pieces::pieces_right` meets its contract. The invariant: the rule holds at every vertex passed. Assumes nothing.
use mathlib.Core.Path.{◌≡◌}
use Prim.Native.Nat.{ℕ, ◌<◌}
use Rattle.provenance.specs.Pieces.{piece_local}
use Rattle.columns.specs.Columns.{cell, tail_of}
use Rattle.pieces.proofs.pieces_right.Given as goal

abbrev pub invariant-loop-i : goal.invariant-loop-i
invariant-loop-i l = (u : ℕ) → u < l.i → cell l.pieces u ≡ piece_local (tail_of l.spans l.tails) (cell l.depths) (cell l.edges) (cell l.pieces) u
