-- `waiting::arrive` meets its contract: what the hyperedge gives is offered to its head. Assumes nothing.
use mathlib.Core.Path.{sym, ◌∙◌, ap, subst}
use Prim.Native.Nat.{ℕ, ◌+◌}
use Rattle.weights.specs.Labels.{label}
use Rattle.columns.specs.Columns.{cell}
use Rattle.queue.specs.Queue.{offered}
use Rattle.waiting.specs.Lines.{Queueable}
use Rattle.waiting.proofs.arrive.Goals as goal
use Rattle.std.specs.Prelude.{Some}

pub offer-requires : goal.offer-requires
offer-requires c =
    let a = c.args in
    subst (λ (z : ℕ). Queueable (label z (a.to.deepest + 1) a.e.0) a.heads.now a.queue.now) (sym c.finishing-weight.ensures) c.requires.queueable

pub returns : goal.returns
returns c =
    let a = c.args in
    c.offer.ensures
    ∙ ap (λ (z : ℕ). offered a.measure a.queue.now (cell a.heads.now a.e.0) (Some (label z (a.to.deepest + 1) a.e.0))) c.finishing-weight.ensures
