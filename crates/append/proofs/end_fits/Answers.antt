-- `append::end_fits` meets its contract: a sum that saturates is above the limit too. Assumes nothing.
use Prim.Native.Nat.{◌+◌}
use native.Mathlib.Omega.{arith}
use Rattle.columns.specs.Acceptance.{most_listed}
use Rattle.columns.specs.Longer.{end_in}
use Rattle.append.proofs.Checks.{end_none, end_last, same_test}
use Rattle.append.proofs.end_fits.Goals as goal

pub returns-then-lines-eq0 : goal.returns-then-lines-eq0
returns-then-lines-eq0 c =
    let a = c.args in
    let e = end_none a.spans.now a.lines c.if-lines-eq0.true in
    same_test a.size most_listed (end_in a.spans.now a.lines + a.size) most_listed (λ h. omega arith) (λ h. omega arith)

pub returns : goal.returns
returns c =
    let a = c.args in
    let q = end_last a.spans.now a.lines c.if-lines-eq0.false in
    let e = c.saturating_add-end.ensures in
    let f = c.saturating_add.ensures in
    same_test c.saturating_add.result most_listed (end_in a.spans.now a.lines + a.size) most_listed (λ h. omega arith) (λ h. omega arith)
