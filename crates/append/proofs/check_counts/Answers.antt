-- `append::check_counts` meets its contract: the first test that fails gives the refusal. Assumes nothing.
use mathlib.Core.Path.{◌≡◌, sym, ◌∙◌, ap}
use mathlib.Core.Bool.{Bool}
use Prim.Native.Nat.{◌+◌}
use lib.Dec.{leb}
use Rattle.refusal.specs.declared.Refusal.TheVariants.{Lengths}
use Rattle.columns.specs.Columns.{columns}
use Rattle.columns.specs.Acceptance.{most_listed, test}
use Rattle.columns.specs.Longer.{end_in}
use Rattle.append.specs.Appending.{counts_acceptance}
use Rattle.append.proofs.Checks.{tests}
use Rattle.append.proofs.check_counts.Goals as goal
use Rattle.refusal.specs.Answers.{Acceptance}
use Rattle.std.specs.Prelude.{Ok}

pub returns-then-n-gt-MOST_VERTICES : goal.returns-then-n-gt-MOST_VERTICES
unfolding counts_acceptance
returns-then-n-gt-MOST_VERTICES c = search tests

pub returns-then-lines-heads : goal.returns-then-lines-heads
unfolding counts_acceptance
returns-then-lines-heads c = search tests

pub returns-then-lines-own : goal.returns-then-lines-own
unfolding counts_acceptance
returns-then-lines-own c = search tests

pub returns-then-lines-strikes : goal.returns-then-lines-strikes
unfolding counts_acceptance
returns-then-lines-strikes c = search tests

pub returns-then-lines : goal.returns-then-lines
unfolding counts_acceptance
returns-then-lines c = search tests

pub returns-then-lines-spans : goal.returns-then-lines-spans
unfolding counts_acceptance
returns-then-lines-spans c = search tests

pub returns-then-listed-tails : goal.returns-then-listed-tails
unfolding counts_acceptance
returns-then-listed-tails c = search tests

pub returns-then-listed : goal.returns-then-listed
unfolding counts_acceptance
returns-then-listed c = search tests

pub returns-then-end_fits : goal.returns-then-end_fits
unfolding counts_acceptance
returns-then-end_fits c =
    let last : Acceptance = let a = c.args in test (leb (end_in a.table.now.spans.now a.in_use.edges + a.size) most_listed) Lengths (Ok tt) in
    let tested : let a = c.args in last ≡ counts_acceptance (columns a.table.now.vertices a.table.now.heads.now a.table.now.own.now a.table.now.strikes.now a.table.now.spans.now a.table.now.tails.now) a.in_use a.size = search tests in
    let t = sym c.end_fits.ensures ∙ c.if-end_fits.true in
    ap (λ (b : Bool). test b Lengths (Ok tt)) (sym t) ∙ tested

pub returns : goal.returns
unfolding counts_acceptance
returns c =
    let last : Acceptance = let a = c.args in test (leb (end_in a.table.now.spans.now a.in_use.edges + a.size) most_listed) Lengths (Ok tt) in
    let tested : let a = c.args in last ≡ counts_acceptance (columns a.table.now.vertices a.table.now.heads.now a.table.now.own.now a.table.now.strikes.now a.table.now.spans.now a.table.now.tails.now) a.in_use a.size = search tests in
    let t = sym c.end_fits.ensures ∙ c.if-end_fits.false in
    ap (λ (b : Bool). test b Lengths (Ok tt)) (sym t) ∙ tested
