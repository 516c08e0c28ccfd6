-- `bestfirst::label_all` meets its contract: each table goes where there are places for it. Assumes nothing.
use mathlib.Core.Path.{refl, sym, ◌∙◌}
use native.Mathlib.Omega.{arith}
use Rattle.waiting.proofs.Steps.{room_small, room-middle, room-large}
use Rattle.bestfirst.proofs.label_all.Goals as goal

pub label_with-requires : goal.label_with-requires
label_with-requires c = (c.requires, room_small _ _ (sym c.holds.ensures ∙ c.if-holds.true), omega arith, omega arith, refl)

pub label_with-requires-then-holds-2 : goal.label_with-requires-then-holds-2
label_with-requires-then-holds-2 c =
    (c.requires, room-middle _ _ (sym c.holds.ensures ∙ c.if-holds.false) (sym c.holds-2.ensures ∙ c.if-holds-2.true), omega arith, omega arith, refl)

pub label_with-requires-2 : goal.label_with-requires-2
label_with-requires-2 c =
    (c.requires, room-large _ _ (sym c.holds.ensures ∙ c.if-holds.false) (sym c.holds-2.ensures ∙ c.if-holds-2.false), omega arith, omega arith, refl)
