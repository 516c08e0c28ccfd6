-- `settle::keeps_up` meets its contract: each return is one case of the test. Assumes nothing.
use borrow.Author.Tests.{eq-eqb, ne_eqb}
use Rattle.settle.proofs.keeps_up.Goals as goal

pub returns-then-height-eq0 : goal.returns-then-height-eq0
returns-then-height-eq0 c = rw (eq-eqb _ _ c.if-height-eq0.true)

pub returns-then-l-eq0 : goal.returns-then-l-eq0
returns-then-l-eq0 c = rw (ne_eqb _ _ c.if-height-eq0.false, eq-eqb _ _ c.if-l-eq0.true)

pub returns : goal.returns
returns c = rw (ne_eqb _ _ c.if-height-eq0.false, ne_eqb _ _ c.if-l-eq0.false) c.ahead.ensures
