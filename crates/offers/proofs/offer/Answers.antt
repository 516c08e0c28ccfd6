-- `offers::offer` meets its contract: the tail is read as the span says. Assumes nothing.
use mathlib.Core.Path.{sym, subst}
use mathlib.Core.List.{List}
use Prim.Native.Nat.{ℕ}
use Rattle.offers.specs.Passing.{Passable}
use Rattle.offers.proofs.Passing.{passable}
use Rattle.offers.proofs.offer.Goals as goal

pub candidate-requires : goal.candidate-requires
candidate-requires c =
    let p = passable c.requires.0 c.requires.2 in
    (subst (λ (t : List ℕ). Passable t c.args.weights.now c.args.depths.now) (sym c.tail_of-tail.ensures) p, c.requires.1)
