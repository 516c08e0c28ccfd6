-- `settle::entry` meets its contract: three numbers are the vertex's label, and the fourth its piece count. Assumes nothing.
use mathlib.Core.Path.{◌∙◌}
use Rattle.settle.proofs.entry.Goals as goal

pub returns : goal.returns
returns c = c.of.ensures ∙ rw (c.cell-weight.ensures, c.cell-depth.ensures, c.cell-root.ensures, c.cell-count.ensures)
