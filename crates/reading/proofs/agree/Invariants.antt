-- `reading::agree` meets its contract. The invariant: what is left has the answer of the whole. Assumes nothing.
use mathlib.Core.Path.{◌≡◌}
use Prim.Native.Nat.{◌+◌}
use lib.ListN.{drop}
use Rattle.reading.specs.Lines.{agreeing}
use Rattle.reading.proofs.agree.Given as goal

abbrev pub invariant-loop-i : goal.invariant-loop-i
invariant-loop-i l = l.i + agreeing (drop l.i l.word) (drop l.i l.text) ≡ agreeing l.word l.text
