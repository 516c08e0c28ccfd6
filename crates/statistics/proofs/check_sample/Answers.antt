use mathlib.Core.Path.{◌∙◌}
use borrow.Author.Tests.{le-leb, lt-leb}
use Rattle.statistics.specs.Samples.{sample_acceptance}
use Rattle.statistics.proofs.Accepting.{results_pass, results_stop, results_end}
use Rattle.statistics.proofs.check_sample.Goals as goal

pub returns-then-is_empty : goal.returns-then-is_empty
unfolding sample_acceptance
returns-then-is_empty c = let h = c.if-is_empty.ensures in rw (← h)

pub returns-then-results-gt-MOST_RESULTS : goal.returns-then-results-gt-MOST_RESULTS
unfolding sample_acceptance
returns-then-results-gt-MOST_RESULTS c = let h = c.if-is_empty.ensures in rw (← h, lt-leb _ _ c.if-results-gt-MOST_RESULTS.true)

pub loop-i-init : goal.loop-i-init
unfolding sample_acceptance
loop-i-init c = let h = c.if-is_empty.ensures in rw (← h, le-leb _ _ c.if-results-gt-MOST_RESULTS.false)

pub returns-then-x-gt-GREATEST_RESULT : goal.returns-then-x-gt-GREATEST_RESULT
returns-then-x-gt-GREATEST_RESULT c = results_stop _ _ c.loop-i-test.true c.if-x-gt-GREATEST_RESULT.true ∙ c.loop-i.invariant

pub loop-i-preserved : goal.loop-i-preserved
loop-i-preserved c = results_pass _ _ c.loop-i-test.true c.if-x-gt-GREATEST_RESULT.false ∙ c.loop-i.invariant

pub returns : goal.returns
returns c = results_end _ _ c.loop-i-test.false ∙ c.loop-i.invariant
