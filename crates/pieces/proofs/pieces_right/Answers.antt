use mathlib.Core.Path.{sym, ◌∙◌}
use native.Mathlib.Omega.{arith}
use Rattle.std.proofs.Common.{below_more}
use Rattle.pieces.proofs.Whole.{all_right, one_wrong, high_wrong}
use Rattle.pieces.proofs.Sums.{low_is}
use Rattle.pieces.proofs.pieces_right.Goals as goal

pub returns-then-not-low : goal.returns-then-not-low
returns-then-not-low c = high_wrong _ _ _ _ _ (sym c.low.ensures ∙ c.if-not-low.true)

pub loop-i-init : goal.loop-i-init
loop-i-init c u h = absurd (omega arith)

pub count_vertex-count-requires : goal.count_vertex-count-requires
count_vertex-count-requires c =
    (c.requires, low_is _ (sym c.low.ensures ∙ c.if-not-low.false), omega (arith, c.requires.pieces_level, c.loop-i-test.true))

pub returns-then-lent-count : goal.returns-then-lent-count
returns-then-lent-count c =
    one_wrong c.requires c.loop-i.i (omega (arith, c.requires.pieces_level, c.loop-i-test.true)) (λ e. c.if-lent-count.true (e ∙ sym c.count_vertex-count.ensures))

pub loop-i-preserved : goal.loop-i-preserved
loop-i-preserved c = below_more _ _ c.loop-i.invariant (c.if-lent-count.false ∙ c.count_vertex-count.ensures)

pub returns : goal.returns
returns c = all_right c.requires (λ v h. c.loop-i.invariant v (omega (arith, c.requires.pieces_level, c.loop-i-test.false)))
