-- `reading::check_text` meets its contract. Assumes nothing.
use mathlib.Core.Path.{sym, ◌∙◌}
use Rattle.refusal.proofs.Passed.{passed_on}
use Rattle.reading.proofs.Laws.{opened, first_refused}
use Rattle.reading.proofs.check_text.Goals as goal

-- no first line
pub returns-in_err-first : goal.returns-in_err-first
returns-in_err-first c = rw (passed_on _ c.from_residual.ensures.1) (first_refused _ _ (sym c.in_err-first.was ∙ c.first_line.ensures))

pub check_lines-requires : goal.check_lines-requires
check_lines-requires c = opened _ _ (sym c.in_ok-first.was ∙ c.first_line.ensures)

pub returns : goal.returns
returns c = c.check_lines.ensures
