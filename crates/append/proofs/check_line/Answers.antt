-- `append::check_line` meets its contract: the first test that fails gives the refusal. Assumes nothing.
use mathlib.Core.Path.{sym, ◌∙◌}
use Rattle.append.specs.Appending.{new_line_acceptance}
use Rattle.append.proofs.Checks.{tests}
use Rattle.append.proofs.check_line.Goals as goal

pub returns-then-head-n : goal.returns-then-head-n
unfolding new_line_acceptance
returns-then-head-n c = search tests

pub returns-then-own : goal.returns-then-own
unfolding new_line_acceptance
returns-then-own c = search tests

pub returns-then-mark : goal.returns-then-mark
unfolding new_line_acceptance
returns-then-mark c = search tests

pub returns-then-tail-gt-LONGEST_TAIL : goal.returns-then-tail-gt-LONGEST_TAIL
unfolding new_line_acceptance
returns-then-tail-gt-LONGEST_TAIL c = search tests

pub returns-then-all_below : goal.returns-then-all_below
unfolding new_line_acceptance
returns-then-all_below c = let t = sym c.all_below.ensures ∙ c.if-all_below.true in search (tests, t)

pub returns : goal.returns
unfolding new_line_acceptance
returns c = let t = sym c.all_below.ensures ∙ c.if-all_below.false in search (tests, t)
