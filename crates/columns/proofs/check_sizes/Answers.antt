-- `columns::check_sizes` meets its contract: the first test that fails gives the refusal. Assumes nothing.
use Rattle.columns.specs.Acceptance.{sizes_acceptance}
use Rattle.columns.proofs.Laws.{tests}
use Rattle.columns.proofs.check_sizes.Goals as goal

pub returns-then-n-gt-MOST_VERTICES : goal.returns-then-n-gt-MOST_VERTICES
unfolding sizes_acceptance
returns-then-n-gt-MOST_VERTICES c = search tests

pub returns-then-own-heads : goal.returns-then-own-heads
unfolding sizes_acceptance
returns-then-own-heads c = search tests

pub returns-then-strikes-heads : goal.returns-then-strikes-heads
unfolding sizes_acceptance
returns-then-strikes-heads c = search tests

pub returns-then-heads-gt-MOST_EDGES : goal.returns-then-heads-gt-MOST_EDGES
unfolding sizes_acceptance
returns-then-heads-gt-MOST_EDGES c = search tests

pub returns-then-spans-heads : goal.returns-then-spans-heads
unfolding sizes_acceptance
returns-then-spans-heads c = search tests

pub returns-then-tails-gt-MOST_LISTED : goal.returns-then-tails-gt-MOST_LISTED
unfolding sizes_acceptance
returns-then-tails-gt-MOST_LISTED c = search tests

pub returns : goal.returns
unfolding sizes_acceptance
returns c = search tests
