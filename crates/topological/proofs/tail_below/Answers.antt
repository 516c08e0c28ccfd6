use mathlib.Core.Path.{refl, ◌∙◌}
use Rattle.columns.proofs.Laws.{below_from, below_more, below_stop, below_end}
use Rattle.topological.proofs.tail_below.Goals as goal

pub loop-v-init : goal.loop-v-init
unfolding below_from
loop-v-init c = refl

pub returns-then-v-n : goal.returns-then-v-n
unfolding below_from
returns-then-v-n c = below_stop c.args.n c.args.tail.now 0 c.loop-v.v-index c.loop-v-test.true c.if-v-n.true ∙ c.loop-v.invariant

pub loop-v-preserved : goal.loop-v-preserved
loop-v-preserved c = below_more _ _ _ _ c.loop-v-test.true c.if-v-n.false ∙ c.loop-v.invariant

pub returns : goal.returns
returns c = below_end _ _ _ _ c.loop-v-test.false ∙ c.loop-v.invariant
