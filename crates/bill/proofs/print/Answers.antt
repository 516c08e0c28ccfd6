-- `bill::print` meets its contract: the bill is measured before it is written. Assumes nothing.
use mathlib.Core.Path.{sym, ◌∙◌}
use Rattle.bill.proofs.Printed.{print_short, print_fits, print_written}
use Rattle.bill.proofs.print.Goals as goal

pub returns-in-None : goal.returns-in-None
returns-in-None c =
    let a = c.args in
    print_short a.spans.now a.tails.now a.edges.now a.depth a.v.0 a.room.now (sym c.spend_all.ensures ∙ c.in-None.is)

pub vertex_bill-length-requires : goal.vertex_bill-length-requires
vertex_bill-length-requires c =
    let a = c.args in
    let fits = sym c.spend_all.ensures ∙ c.in-Some.is in
    print_fits a.spans.now a.tails.now a.edges.now a.depth a.v.0 a.room.now fits c.requires.0

pub returns : goal.returns
returns c =
    let a = c.args in
    let fits = sym c.spend_all.ensures ∙ c.in-Some.is in
    print_written a.spans.now a.tails.now a.edges.now a.depth a.v.0 a.room.now fits c.vertex_bill-length.ensures
