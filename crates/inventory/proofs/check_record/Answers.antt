-- `inventory::check_record` meets its contract: the tests that led to a return say which is the first to fail. Assumes nothing.
use borrow.Author.Tests.{le-leb, lt-leb, eq-eqb, ne_eqb}
use Rattle.inventory.specs.Replaying.{record_acceptance}
use Rattle.inventory.proofs.check_record.Goals as goal

ruleset tests = (le-leb, lt-leb, eq-eqb, ne_eqb)

pub returns-then-n-gt-MOST_VERTICES : goal.returns-then-n-gt-MOST_VERTICES
unfolding record_acceptance
returns-then-n-gt-MOST_VERTICES c = search tests

pub returns-then-received-parts : goal.returns-then-received-parts
unfolding record_acceptance
returns-then-received-parts c = search tests

pub returns-then-outcomes-parts : goal.returns-then-outcomes-parts
unfolding record_acceptance
returns-then-outcomes-parts c = search tests

pub returns-then-parts-gt-MOST_EVENTS : goal.returns-then-parts-gt-MOST_EVENTS
unfolding record_acceptance
returns-then-parts-gt-MOST_EVENTS c = search tests

pub returns : goal.returns
unfolding record_acceptance
returns c = search tests
