use mathlib.Core.Path.{◌∙◌, ap}
use mathlib.Core.Bool.{not}
use native.Mathlib.Omega.{arith}
use Rattle.weights.specs.Figures.{is_struck_mark}
use Rattle.weights.specs.Measures.{algebra}
use Rattle.columns.specs.Acceptance.{most_vertices}
use Rattle.columns.specs.Columns.{cell, tail_of}
use Rattle.columns.proofs.Filled.{filled_none}
use Rattle.offers.specs.Values.{below, value_in, height_in, value_at, height_at}
use Rattle.offers.proofs.Values.{value_in_lem, height_in_lem, height_within, fill_more}
use Rattle.offers.proofs.light_values.Goals as goal

pub loop-i-init : goal.loop-i-init
unfolding below
loop-i-init c = (filled_none _, filled_none _)

pub note-requires : goal.note-requires
unfolding height_at
note-requires c =
    let a = c.args in
    let i = c.loop-i.i in
    let p = c.requires.0 in
    let g = (p.each i c.loop-i-test.true).legible.shallow in
    let live = not (is_struck_mark (cell a.strikes.now i)) in
    let tail = tail_of a.spans.now a.tails.now i in
    let height = ap height_in c.offer-o.ensures ∙ height_in_lem (algebra a.measure) live (cell a.own.now i) tail (cell a.weights.now) (cell a.depths.now) i in
    record {
      value = omega (arith, p.values);
      height = omega (arith, p.heights);
      small = omega (arith, height, height_within (cell a.depths.now) most_vertices g live tail);
    }

pub loop-i-preserved : goal.loop-i-preserved
unfolding height_at value_at
loop-i-preserved c =
    let a = c.args in
    let i = c.loop-i.i in
    let p = c.requires.0 in
    let value = ap value_in c.offer-o.ensures ∙ value_in_lem (algebra a.measure) _ (cell a.own.now i) _ (cell a.weights.now) _ i in
    let height = ap height_in c.offer-o.ensures ∙ height_in_lem (algebra a.measure) _ (cell a.own.now i) _ (cell a.weights.now) _ i in (
      c.note.ensures.0 ∙ fill_more (value_at a.measure a.own.now a.strikes.now a.spans.now a.tails.now a.weights.now a.depths.now) a.values.now c.loop-i.values i _ (omega (arith, p.values)) c.loop-i.invariant.0 value,
      c.note.ensures.1 ∙ fill_more (height_at a.measure a.own.now a.strikes.now a.spans.now a.tails.now a.weights.now a.depths.now) a.heights.now c.loop-i.heights i _ (omega (arith, p.heights)) c.loop-i.invariant.1 height,
    )
