use mathlib.Core.Path.{◌∙◌}
use native.Mathlib.Omega.{arith}
use Rattle.shuffle.proofs.Places.{gathered_le}
use Rattle.shuffle.proofs.figure_at.Goals as goal

pub returns : goal.returns
returns c =
    let a = c.args in
    c.from_le_bytes.ensures ∙ gathered_le a.k a.i a.bytes.now c.loop-p.byte-items c.loop-p-test.array_long (λ q h. c.loop-p.invariant q (omega arith))
