-- `uses::ends_in` meets its contract. Assumes nothing.
use borrow.Author.Tests.{eq-eqb, ne_eqb}
use Rattle.uses.specs.Indexable.{ends_in}
use Rattle.uses.proofs.ends_in.Goals as goal

pub returns-then-k-eq0 : goal.returns-then-k-eq0
unfolding ends_in
returns-then-k-eq0 c = rw (eq-eqb _ _ c.if-k-eq0.true)

pub returns : goal.returns
unfolding ends_in
returns c = rw (ne_eqb _ _ c.if-k-eq0.false)
