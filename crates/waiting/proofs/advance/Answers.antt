-- `waiting::advance` meets its contract: the hyperedge goes on as far as it can, and waits there or is offered. Assumes nothing.
use native.Mathlib.Omega.{arith}
use Rattle.columns.proofs.Usable.{edge_in}
use Rattle.waiting.proofs.Steps.{passable, span_length, waits-there, went_there, offers-end, went_past}
use Rattle.waiting.proofs.advance.Goals as goal

pub bounds-spans-i : goal.bounds-spans-i
bounds-spans-i c = omega (arith, (edge_in c.requires.0.usable c.args.e.0 c.requires.1.numbered).placed.span)

pub bounds-spans-i-2 : goal.bounds-spans-i-2
bounds-spans-i-2 c = omega (arith, (edge_in c.requires.0.usable c.args.e.0 c.requires.1.numbered).placed.span)

pub overflow_add-stop : goal.overflow_add-stop
overflow_add-stop c = omega (arith, (edge_in c.requires.0.usable c.args.e.0 c.requires.1.numbered).placed.within)

pub offset_bounds-tails-offset : goal.offset_bounds-tails-offset
offset_bounds-tails-offset c = omega (arith, (edge_in c.requires.0.usable c.args.e.0 c.requires.1.numbered).placed.within)

pub slice_bounds-go_on-end : goal.slice_bounds-go_on-end
slice_bounds-go_on-end c = omega (arith, (edge_in c.requires.0.usable c.args.e.0 c.requires.1.numbered).placed.within)

pub go_on-to-requires : goal.go_on-to-requires
go_on-to-requires c = rw span_length (passable c.requires.0 c.args.e.0 c.requires.1.numbered, c.requires.1.passed)

pub wait-requires : goal.wait-requires
wait-requires c = waits-there c.requires.0 c.requires.1 c.go_on-to.ensures c.if-k-size.true

pub returns-then-k-size : goal.returns-then-k-size
returns-then-k-size c = went_there c.requires.0 c.requires.1 c.go_on-to.ensures c.if-k-size.true c.wait.ensures

pub arrive-requires : goal.arrive-requires
arrive-requires c = offers-end c.requires.0 c.requires.1 c.go_on-to.ensures c.if-k-size.false

pub returns : goal.returns
returns c = went_past c.requires.0 c.requires.1 c.go_on-to.ensures c.if-k-size.false c.arrive.ensures
