use native.Mathlib.Omega.{arith}
use borrow.Author.Rules.{rules}
use Rattle.columns.proofs.Accepted.{table_accepted}
use Rattle.writetable.proofs.Laws.{edge_here, header_fits, line_put, putting_none, putting_all, place, next_room}
use Rattle.writetable.proofs.put_text.Goals as goal

pub put_header-at-requires : goal.put_header-at-requires
put_header-at-requires c = header_fits _ _ _ c.requires

pub loop-i-init : goal.loop-i-init
loop-i-init c =
    let t = table_accepted _ c.requires.accepted in record { own_long = t.own; strikes_long = t.strikes; putting = putting_none _ _ _ }

pub tail_of-tail-requires : goal.tail_of-tail-requires
tail_of-tail-requires c = (edge_here _ c.loop-i.i c.requires.accepted (omega arith)).placed

pub slice_bounds-put_edge-count : goal.slice_bounds-put_edge-count
slice_bounds-put_edge-count c =
    (next_room _ _ _ _ _ _ _ _ c.loop-i.invariant.putting c.put_header-at.ensures c.requires.fits (omega arith) c.tail_of-tail.ensures).0

pub slice_bounds-put_edge-start : goal.slice_bounds-put_edge-start
slice_bounds-put_edge-start c =
    let r = (next_room _ _ _ _ _ _ _ _ c.loop-i.invariant.putting c.put_header-at.ensures c.requires.fits (omega arith) c.tail_of-tail.ensures).0 in
    search (rules, r)

pub put_edge-at-requires : goal.put_edge-at-requires
put_edge-at-requires c =
    (next_room _ _ _ _ _ _ _ _ c.loop-i.invariant.putting c.put_header-at.ensures c.requires.fits (omega arith) c.tail_of-tail.ensures).1

pub overflow_add-at : goal.overflow_add-at
overflow_add-at c =
    let again = line_put _ _ c.loop-i.i (omega arith) c.tail_of-tail.ensures _ _ _ c.loop-i.invariant.putting _ _ c.put_edge-at.ensures in
    let a = place _ _ _ _ _ _ _ _ again c.put_header-at.ensures c.requires.fits in
    omega (arith, c.well_formed)

pub loop-i-preserved : goal.loop-i-preserved
loop-i-preserved c = record {
  own_long = c.loop-i.invariant.own_long;
  strikes_long = c.loop-i.invariant.strikes_long;
  putting = line_put _ _ c.loop-i.i (omega arith) c.tail_of-tail.ensures _ _ _ c.loop-i.invariant.putting _ _ c.put_edge-at.ensures;
}

pub returns : goal.returns
returns c = putting_all _ _ _ _ c.loop-i.i _ _ _ c.loop-i.invariant.putting (omega arith) c.put_header-at.ensures c.requires.fits
