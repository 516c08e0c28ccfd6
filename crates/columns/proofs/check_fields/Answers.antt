-- `columns::check_fields` meets its contract: at each `return` the tests that led there say which test of `fields_acceptance` is the first to fail. Assumes nothing.
use Prim.Native.Nat.{◌+◌, ◌<◌}
use native.Mathlib.Omega.{arith}
use lib.ListN.{length}
use Rattle.columns.specs.Acceptance.{fields_acceptance}
use Rattle.columns.proofs.Laws.{tests}
use Rattle.columns.proofs.check_fields.Goals as goal

pub returns-then-head-n : goal.returns-then-head-n
unfolding fields_acceptance
returns-then-head-n c = search tests

pub returns-then-own : goal.returns-then-own
unfolding fields_acceptance
returns-then-own c = search tests

pub returns-then-mark : goal.returns-then-mark
unfolding fields_acceptance
returns-then-mark c = search tests

pub returns-then-offset-end : goal.returns-then-offset-end
unfolding fields_acceptance
returns-then-offset-end c = search tests

pub returns-then-size-gt-LONGEST_TAIL : goal.returns-then-size-gt-LONGEST_TAIL
unfolding fields_acceptance
returns-then-size-gt-LONGEST_TAIL c = search tests

pub returns-then-offset-all : goal.returns-then-offset-all
unfolding fields_acceptance
returns-then-offset-all c =
    let a = c.args in
    let h : length a.tails.now < a.offset + a.size = omega arith in
    search tests

pub returns-then-offset-size : goal.returns-then-offset-size
unfolding fields_acceptance
returns-then-offset-size c = search tests

pub returns : goal.returns
unfolding fields_acceptance
returns c = search tests
