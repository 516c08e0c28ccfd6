-- `writing::tail_width` meets its contract. The invariant: the vertices so far are measured. Assumes nothing.
use mathlib.Core.Path.{◌≡◌}
use Prim.Native.Nat.{◌+◌, ◌*◌, ◌≤◌}
use lib.ListN.{length, take}
use Rattle.text.specs.Render.{tail_text}
use Rattle.writing.proofs.tail_width.Given as goal

abbrev pub invariant-loop-v : goal.invariant-loop-v
invariant-loop-v l = (l.width ≡ length (tail_text (take l.v-index l.tail)) + 1) × (l.width ≤ 1025 * l.v-index + 1)
