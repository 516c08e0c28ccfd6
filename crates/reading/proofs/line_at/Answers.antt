-- `reading::line_at` meets its contract. Assumes nothing.
use mathlib.Core.Path.{sym, ◌∙◌}
use native.Mathlib.Omega.{arith}
use Rattle.refusal.proofs.Passed.{passed_on}
use Rattle.reading.proofs.Scanning.{stem_counts}
use Rattle.reading.proofs.Laws.{stemmed, line_unstemmed, line_untailed, line_tailed}
use Rattle.reading.proofs.line_at.Goals as goal

pub returns-in_err-stem : goal.returns-in_err-stem
returns-in_err-stem c = rw (passed_on _ c.from_residual.ensures.1) (line_unstemmed _ _ _ _ _ _ _ (sym c.in_err-stem.was ∙ c.stem_at.ensures))

-- the list begins behind the stem, in the text
pub tail_at-requires : goal.tail_at-requires
tail_at-requires c =
    let r = stem_counts _ _ _ _ _ _ _ (stemmed _ _ _ _ (sym c.in_ok-stem.was ∙ c.stem_at.ensures)) in let h = r.0 in (omega arith, r.1)

pub returns-in_err-tail : goal.returns-in_err-tail
returns-in_err-tail c =
    rw (passed_on _ c.from_residual-in_err-tail.ensures.1)
    (line_untailed _ _ _ _ _ _ _ _ _ _ _ _ _ (stemmed _ _ _ _ (sym c.in_ok-stem.was ∙ c.stem_at.ensures)) c.tail_at.ensures c.in_err-tail.was)

pub returns : goal.returns
returns c = line_tailed _ _ _ _ _ _ _ _ _ _ _ _ _ (stemmed _ _ _ _ (sym c.in_ok-stem.was ∙ c.stem_at.ensures)) c.tail_at.ensures c.in_ok-tail.was
