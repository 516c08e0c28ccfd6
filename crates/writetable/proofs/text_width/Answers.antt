use native.Mathlib.Omega.{arith}
use Rattle.columns.proofs.Accepted.{table_accepted}
use Rattle.writing.proofs.Widths.{header_most}
use Rattle.writetable.proofs.Laws.{edge_here, tail_fits, line_measured, measured_none, measured_all}
use Rattle.writetable.proofs.text_width.Goals as goal

pub header_width-width-requires : goal.header_width-width-requires
header_width-width-requires c = (table_accepted _ c.requires).few

pub loop-i-init : goal.loop-i-init
loop-i-init c =
    let t = table_accepted _ c.requires in
    let m = header_most c.args.table.now.vertices c.args.measure t.few in
    let w = c.header_width-width.ensures in
    record { own_long = t.own; strikes_long = t.strikes; measured = measured_none _ _ (omega arith) }

pub tail_of-tail-requires : goal.tail_of-tail-requires
tail_of-tail-requires c = (edge_here _ c.loop-i.i c.requires (omega arith)).placed

pub edge_width-width-requires : goal.edge_width-width-requires
edge_width-width-requires c = tail_fits _ _ c.tail_of-tail.ensures (edge_here _ c.loop-i.i c.requires (omega arith))

pub overflow_add-width : goal.overflow_add-width
overflow_add-width c =
    let m = line_measured _ _ c.loop-i.i (omega arith) c.tail_of-tail.ensures _ _ c.requires c.edge_width-width.ensures c.loop-i.invariant.measured in
    let b = m.most in
    let s = m.small in
    let e = (table_accepted _ c.requires).edges in
    omega arith

pub loop-i-preserved : goal.loop-i-preserved
loop-i-preserved c = record {
  own_long = c.loop-i.invariant.own_long;
  strikes_long = c.loop-i.invariant.strikes_long;
  measured = line_measured _ _ c.loop-i.i (omega arith) c.tail_of-tail.ensures _ _ c.requires c.edge_width-width.ensures c.loop-i.invariant.measured;
}

pub returns : goal.returns
returns c = measured_all _ _ _ _ c.loop-i.i c.header_width-width.ensures (omega arith) c.loop-i.invariant.measured
