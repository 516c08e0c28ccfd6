-- `waiting::wake` meets its contract: nothing is offered to a made head; else the hyperedge goes on from where it waited. Assumes nothing.
use mathlib.Core.Path.{refl}
use native.Mathlib.Omega.{arith}
use Rattle.columns.specs.Lent.{lent}
use Rattle.columns.specs.Columns.{cell}
use Rattle.columns.proofs.Usable.{head_in}
use Rattle.waiting.specs.Lines.{stays}
use Rattle.waiting.proofs.Steps.{edge-room, heard_made}
use Rattle.waiting.proofs.wake.Goals as goal

pub offset_bounds-depths-h : goal.offset_bounds-depths-h
offset_bounds-depths-h c = omega (arith, head_in c.requires.0.usable c.args.e.0 c.requires.1.waiter.numbered)

pub bounds-depths-h : goal.bounds-depths-h
bounds-depths-h c = omega (arith, head_in c.requires.0.usable c.args.e.0 c.requires.1.waiter.numbered)

pub returns-then-depths-h-ne0 : goal.returns-then-depths-h-ne0
returns-then-depths-h-ne0 c =
    let a = c.args in
    record {
      moved =
          stays refl (λ z. absurd (c.if-depths-h-ne0.true z));
      heard =
          heard_made a.measure (lent a.table.now.heads.now a.table.now.own.now a.table.now.strikes.now a.table.now.spans.now a.table.now.tails.now a.depths.now)
          (cell a.weights.now) (cell a.depths.now) a.e.0 a.queue.now c.if-depths-h-ne0.true;
    }

pub bounds-at-i : goal.bounds-at-i
bounds-at-i c = omega (arith, edge-room c.requires.0 c.args.e.0 c.requires.1.waiter.numbered, c.requires.1.sizes.at)

pub bounds-joined-i : goal.bounds-joined-i
bounds-joined-i c = omega (arith, edge-room c.requires.0 c.args.e.0 c.requires.1.waiter.numbered, c.requires.1.sizes.joined)

pub bounds-deepest-i : goal.bounds-deepest-i
bounds-deepest-i c = omega (arith, edge-room c.requires.0 c.args.e.0 c.requires.1.waiter.numbered, c.requires.1.sizes.deepest)

pub advance-requires : goal.advance-requires
advance-requires c =
    let y = c.requires.1 in (c.requires.0, record { sizes = y.sizes; numbered = y.waiter.numbered; unstruck = y.waiter.unstruck; fresh = omega (arith, c.if-depths-h-ne0.false); passed = y.waiter.passed })
