-- `writing::put_tail` meets its contract. The invariant: the vertices so far are written. Assumes nothing.
use lib.ListN.{take}
use Rattle.text.specs.Render.{tail_text}
use Rattle.writing.specs.Written.{Written}
use Rattle.writing.proofs.put_tail.Given as goal

abbrev pub invariant-loop-v : goal.invariant-loop-v
invariant-loop-v l = Written (tail_text (take l.v-index l.tail)) l.initial.room l.at l.room
