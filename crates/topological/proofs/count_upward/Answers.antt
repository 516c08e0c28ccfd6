use mathlib.Core.Path.{sym, ◌∙◌}
use Rattle.pieces.proofs.Stages.{countable_still}
use Rattle.topological.proofs.Counting.{risen_none, risen_low, risen_more, risen_all}
use Rattle.topological.proofs.count_upward.Goals as goal

pub loop-i-init : goal.loop-i-init
loop-i-init c = risen_none _ _ _ _ c.args.pieces.now c.requires.0.pieces_level c.set_all.ensures

pub count_vertex-count-requires : goal.count_vertex-count-requires
count_vertex-count-requires c =
    let r = c.loop-i.invariant in
    let n = c.requires.0 in
    (countable_still n (r.level ∙ sym n.pieces_level), risen_low _ _ _ _ r, c.loop-i-test.true)

pub loop-i-preserved : goal.loop-i-preserved
loop-i-preserved c =
    risen_more _ _ _ _ c.loop-i.invariant c.requires.0 c.requires.1 c.loop-i-test.true c.count_vertex-count.ensures

pub returns : goal.returns
returns c = risen_all _ _ _ _ c.loop-i.invariant c.loop-i-test.false
