-- `inventory::build` meets its contract: nothing is taken before there is enough of everything. Assumes nothing.
use mathlib.Core.Path.{sym, ◌∙◌, ap}
use lib.ListN.{length}
use Rattle.inventory.specs.declared.Fulfilment.TheVariants.{Built}
use Rattle.inventory.specs.Replaying.{fulfilled}
use Rattle.inventory.proofs.Taking.{length-consumed}
use Rattle.inventory.proofs.Running.{build_none, build_short, build_made}
use Rattle.inventory.proofs.build.Goals as goal

pub returns-then-tail-eq0 : goal.returns-then-tail-eq0
returns-then-tail-eq0 c = build_none _ _ c.if-tail-eq0.true

pub returns-then-not-suffices : goal.returns-then-not-suffices
returns-then-not-suffices c = build_short _ _ c.if-tail-eq0.false (sym c.suffices.ensures ∙ c.if-not-suffices.true)

pub consume-requires : goal.consume-requires
consume-requires c = (c.requires, sym c.suffices.ensures ∙ c.if-not-suffices.false)

pub shape_of-stock : goal.shape_of-stock
shape_of-stock c = ap length c.consume.ensures ∙ length-consumed _ _

pub returns : goal.returns
returns c =
    ap (fulfilled Built) c.consume.ensures
    ∙ build_made _ _ c.if-tail-eq0.false (sym c.suffices.ensures ∙ c.if-not-suffices.false)
