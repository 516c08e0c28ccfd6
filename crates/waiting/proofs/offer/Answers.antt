-- `waiting::offer` meets its contract: the key of the label lowers that of its head. Assumes nothing.
use mathlib.Core.Path.{◌∙◌, ap}
use Prim.Native.Nat.{ℕ}
use Rattle.columns.specs.Columns.{cell}
use Rattle.minima.specs.Minima.{lowered}
use Rattle.waiting.proofs.offer.Goals as goal

pub returns : goal.returns
returns c =
    let a = c.args in
    c.lower.ensures ∙ ap (λ (z : ℕ). lowered a.queue.now (cell a.heads.now a.l.edge.0) z) c.pack-key.ensures
