use native.Mathlib.Omega.{arith}
use Rattle.text.specs.Render.{tail_text}
use Rattle.writing.proofs.Widths.{listed_step}
use Rattle.writing.proofs.tail_width.Goals as goal

pub loop-v-init : goal.loop-v-init
unfolding tail_text
loop-v-init c = omega arith

pub overflow_add-width : goal.overflow_add-width
overflow_add-width c =
    let m = listed_step c.args.tail.now c.loop-v.v-index c.loop-v.width _ (omega arith) c.requires c.number_width.ensures c.loop-v.invariant.0 in
    let a = m.0 in
    omega arith

pub overflow_add-width-in-loop-v : goal.overflow_add-width-in-loop-v
overflow_add-width-in-loop-v c =
    let m = listed_step c.args.tail.now c.loop-v.v-index c.loop-v.width _ (omega arith) c.requires c.number_width.ensures c.loop-v.invariant.0 in
    let a = m.0 in
    let b = m.2 in
    omega arith

pub loop-v-preserved : goal.loop-v-preserved
loop-v-preserved c =
    let m = listed_step c.args.tail.now c.loop-v.v-index c.loop-v.width _ (omega arith) c.requires c.number_width.ensures c.loop-v.invariant.0 in
    let a = m.0 in
    (m.1, omega arith)
