use mathlib.Core.Path.{◌∙◌, ap}
use Rattle.refusal.specs.Refusals.{acceptance_result}
use Rattle.tozbierdu.proofs.tozbierdu_check_table.Goals as goal

pub returns : goal.returns
returns c = c.result.ensures ∙ ap acceptance_result c.check_table-a.ensures
