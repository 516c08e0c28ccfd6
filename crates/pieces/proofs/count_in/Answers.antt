use mathlib.Core.Path.{sym, ◌∙◌}
use Prim.Native.Nat.{◌<◌}
use native.Mathlib.Omega.{arith}
use lib.ListN.{length}
use Rattle.pieces.proofs.Stages.{countable_still, staged_none, staged_next}
use Rattle.pieces.proofs.Whole.{all-counted}
use Rattle.pieces.proofs.count_in.Goals as goal

pub loop-d-init : goal.loop-d-init
loop-d-init c = staged_none _ c.link-deepest.ensures.linked

pub count_layer-requires : goal.count_layer-requires
count_layer-requires c =
    let k = c.requires.0 in
    let s = c.loop-d.invariant in
    let m = c.link-deepest.ensures.linked in
    let h : c.loop-d.d < length c.args.last.now = omega (arith, c.link-deepest.ensures.deepest.layer, c.loop-d-test.true) in
    record { countable = countable_still k (s.level ∙ sym k.pieces_level); layer = omega (arith, m.last_level); end = m.ends c.loop-d.d h; staged = s }

pub loop-d-preserved : goal.loop-d-preserved
loop-d-preserved c = staged_next c.count_layer.ensures

-- after the greatest depth
pub returns-2 : goal.returns-2
returns-2 c = all-counted c.requires.0 c.link-deepest.ensures.deepest (omega arith) (staged_next c.count_layer.ensures)
