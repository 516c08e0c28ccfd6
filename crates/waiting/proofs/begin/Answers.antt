-- `waiting::begin` meets its contract: a struck hyperedge is passed over, one with an empty tail is offered, any other waits for the first vertex of its tail.
-- Assumes nothing.
use mathlib.Core.Path.{sym, ◌∙◌}
use native.Mathlib.Omega.{arith}
use Rattle.columns.proofs.Usable.{edge_in}
use Rattle.waiting.proofs.Steps.{tails_few}
use Rattle.waiting.proofs.Starts.{struck_next, first_linkable, first-waits, own_queueable, own_offered, went_next}
use Rattle.waiting.proofs.begin.Goals as goal

pub bounds-strikes-i : goal.bounds-strikes-i
bounds-strikes-i c = omega (arith, (edge_in c.requires.0.usable c.args.e.0 c.requires.1.0).mark)

pub returns-then-struck : goal.returns-then-struck
returns-then-struck c = struck_next c.requires.1.1 (sym c.is_struck-struck.ensures ∙ c.if-struck.true)

pub bounds-spans-i : goal.bounds-spans-i
bounds-spans-i c = omega (arith, (edge_in c.requires.0.usable c.args.e.0 c.requires.1.0).placed.span)

pub bounds-spans-i-2 : goal.bounds-spans-i-2
bounds-spans-i-2 c = omega (arith, (edge_in c.requires.0.usable c.args.e.0 c.requires.1.0).placed.span)

pub offset_bounds-tails-offset : goal.offset_bounds-tails-offset
offset_bounds-tails-offset c =
    omega (arith, (edge_in c.requires.0.usable c.args.e.0 c.requires.1.0).placed.within, c.if-size-ne0.true, tails_few c.requires.0 c.args.e.0 c.requires.1.0)

pub bounds-tails-offset : goal.bounds-tails-offset
bounds-tails-offset c = omega (arith, (edge_in c.requires.0.usable c.args.e.0 c.requires.1.0).placed.within, c.if-size-ne0.true)

pub link-requires : goal.link-requires
link-requires c =
    let unstruck = sym c.is_struck-struck.ensures ∙ c.if-struck.false in
    first_linkable c.requires.1.1 c.requires.0 c.requires.1.0 unstruck c.if-size-ne0.true

pub returns-then-size-ne0 : goal.returns-then-size-ne0
returns-then-size-ne0 c =
    let unstruck = sym c.is_struck-struck.ensures ∙ c.if-struck.false in
    let w = first-waits c.requires.1.1 c.requires.0 c.requires.1.0 unstruck c.if-size-ne0.true c.link.ensures in
    went_next c.requires.1.1 c.requires.0 c.requires.1.0 unstruck w

pub bounds-own-i : goal.bounds-own-i
bounds-own-i c = omega (arith, (edge_in c.requires.0.usable c.args.e.0 c.requires.1.0).own)

-- no vertex is listed
pub offer-requires : goal.offer-requires
offer-requires c =
    let unstruck = sym c.is_struck-struck.ensures ∙ c.if-struck.false in
    own_queueable c.requires.1.1 c.requires.0 c.requires.1.0 unstruck c.if-size-ne0.false

pub returns : goal.returns
returns c =
    let unstruck = sym c.is_struck-struck.ensures ∙ c.if-struck.false in
    let w = own_offered c.requires.1.1 c.requires.0 c.requires.1.0 unstruck c.if-size-ne0.false c.offer.ensures in
    went_next c.requires.1.1 c.requires.0 c.requires.1.0 unstruck w
