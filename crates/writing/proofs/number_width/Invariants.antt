-- `writing::number_width` meets its contract. The invariant: the digits counted and those of what is left are those of the number. Assumes nothing.
use mathlib.Core.Path.{◌≡◌}
use Prim.Native.Nat.{◌+◌, ◌≤◌}
use lib.ListN.{length}
use Rattle.text.specs.Render.{digits}
use Rattle.writing.proofs.number_width.Given as goal

abbrev pub invariant-loop-rest : goal.invariant-loop-rest
invariant-loop-rest l = (l.n + l.rest ≤ l.v + 1) × (l.n + length (digits l.rest) ≡ length (digits l.v) + 1)

abbrev pub decreases-loop-rest : goal.decreases-loop-rest
decreases-loop-rest l = l.rest
