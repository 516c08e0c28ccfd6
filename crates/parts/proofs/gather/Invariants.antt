-- `parts::gather` meets its contract. The invariant: what was put into the line lies within it, and its length stays. Assumes nothing.
use Rattle.std.proofs.Common.{◌≡◌, ◌≤◌, length}
use Rattle.parts.proofs.gather.Given as goal

abbrev pub invariant-loop-i : goal.invariant-loop-i
invariant-loop-i g l = (l.at ≤ length l.words) × (length l.words ≡ length l.initial.words)
