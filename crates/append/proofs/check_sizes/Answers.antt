-- `append::check_sizes` meets its contract: the first test that fails gives the refusal. Assumes nothing.
use Rattle.append.specs.Appending.{sized_acceptance}
use Rattle.append.proofs.Checks.{tests}
use Rattle.append.proofs.check_sizes.Goals as goal

pub returns-then-weights-n : goal.returns-then-weights-n
unfolding sized_acceptance
returns-then-weights-n c = search tests

pub returns-then-depths-n : goal.returns-then-depths-n
unfolding sized_acceptance
returns-then-depths-n c = search tests

pub returns-then-edges-n : goal.returns-then-edges-n
unfolding sized_acceptance
returns-then-edges-n c = search tests

pub returns-then-pieces-n : goal.returns-then-pieces-n
unfolding sized_acceptance
returns-then-pieces-n c = search tests

pub returns : goal.returns
unfolding sized_acceptance
returns c = search tests
