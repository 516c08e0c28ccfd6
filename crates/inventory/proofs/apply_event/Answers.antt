-- `inventory::apply_event` meets its contract: 25, then a receipt or an order. Assumes nothing.
use mathlib.Core.Path.{◌∙◌, ap}
use lib.ListN.{length}
use Rattle.inventory.specs.Replaying.{Fulfilled, Stepped, ordered}
use Rattle.inventory.proofs.Running.{length-receive, length-fulfil, event_absent, event_received, event_ordered}
use Rattle.inventory.proofs.apply_event.Goals as goal

pub returns-then-v-stock : goal.returns-then-v-stock
returns-then-v-stock c = event_absent _ _ _ _ _ c.if-v-stock.true

pub receive-requires : goal.receive-requires
receive-requires c = (c.if-v-stock.false, c.requires.1 c.args.v.0)

pub shape_of-stock-then-pieces-gt0 : goal.shape_of-stock-then-pieces-gt0
shape_of-stock-then-pieces-gt0 c = ap (λ (x : Stepped). length x.stock) c.receive.ensures ∙ length-receive _ _ _ _

pub returns-then-pieces-gt0 : goal.returns-then-pieces-gt0
returns-then-pieces-gt0 c = c.receive.ensures ∙ event_received _ _ _ _ _ c.if-v-stock.false c.if-pieces-gt0.true

pub shape_of-stock : goal.shape_of-stock
shape_of-stock c = ap (λ (x : Fulfilled). length x.stock) c.fulfil.ensures ∙ length-fulfil _ _ _

pub returns : goal.returns
returns c = ap ordered c.fulfil.ensures ∙ event_ordered _ _ _ _ _ c.if-v-stock.false c.if-pieces-gt0.false
