-- `reading::tail_at` meets its contract. The invariant: k vertices are listed and stored, and what follows has the answer of the whole. Assumes nothing.
use Prim.Native.Nat.{◌-◌, ◌≤◌}
use lib.ListN.{length}
use Rattle.reading.proofs.Laws.{Listed}
use Rattle.reading.proofs.tail_at.Given as goal

abbrev pub invariant-loop-line : goal.invariant-loop-line
invariant-loop-line l =
    (Listed l.text l.n l.most l.at l.initial.room l.room l.k l.next) × (l.start ≤ l.next) × (l.next ≤ length l.text)

abbrev pub decreases-loop-line : goal.decreases-loop-line
decreases-loop-line l = length l.text - l.next
