-- `columns::equal` meets its contract: `==` compares place by place. Assumes nothing.
use mathlib.Core.Path.{◌∙◌}
use Rattle.columns.proofs.Same.{equal_pointwise}
use Rattle.columns.proofs.equal.Goals as goal

pub returns : goal.returns
returns c = c.eq.ensures ∙ equal_pointwise _ _
