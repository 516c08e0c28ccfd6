-- `inventory::fulfil` meets its contract: a piece from the shelf, or what the chosen hyperedge lists. Assumes nothing.
use mathlib.Core.Path.{sym, ◌∙◌, ap, subst}
use mathlib.Core.List.{List}
use Prim.Native.Nat.{ℕ}
use lib.ListN.{length}
use Rattle.inventory.specs.Shelf.{Inside}
use Rattle.inventory.specs.Replaying.{Fulfilled, build}
use Rattle.inventory.proofs.Meaning.{chosen_made, chosen_unmade}
use Rattle.inventory.proofs.Running.{length-build, fulfil_issued, fulfil_unmade, fulfil_built}
use Rattle.inventory.proofs.fulfil.Goals as goal

pub returns-then-held-gt0 : goal.returns-then-held-gt0
returns-then-held-gt0 c = fulfil_issued _ _ _ c.if-held-gt0.true

pub returns-then-depth-eq0 : goal.returns-then-depth-eq0
returns-then-depth-eq0 c = fulfil_unmade _ _ _ c.if-held-gt0.false (chosen_unmade _ _ _ _ _ c.if-depth-eq0.true)

pub tail_of-tail-requires : goal.tail_of-tail-requires
tail_of-tail-requires c = c.requires.0.placed c.args.v.0 c.requires.1 c.if-depth-eq0.false

pub build-requires : goal.build-requires
build-requires c =
    subst (λ (z : List ℕ). Inside z c.args.stock.now) (chosen_made _ _ _ _ _ c.if-depth-eq0.false ∙ sym c.tail_of-tail.ensures)
    (c.requires.0.inside c.args.v.0 c.requires.1)

pub shape_of-stock : goal.shape_of-stock
shape_of-stock c = ap (λ (f : Fulfilled). length f.stock) c.build.ensures ∙ length-build _ _

pub returns : goal.returns
returns c =
    c.build.ensures
    ∙ ap (build c.args.stock.now) (c.tail_of-tail.ensures ∙ sym (chosen_made _ _ _ _ _ c.if-depth-eq0.false))
    ∙ fulfil_built _ _ _ c.if-held-gt0.false
