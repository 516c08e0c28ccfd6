-- `ledger::pieces_at` meets its contract, by what stands behind the part, and behind the pieces. Assumes nothing.
use mathlib.Core.Path.{sym, ◌∙◌}
use native.Mathlib.Omega.{arith}
use Rattle.cursor.proofs.Counts.{byte_within}
use Rattle.ledger.proofs.Laws.{pieces_is, pieces_line, pieces_other}
use Rattle.ledger.proofs.pieces_at.Goals as goal

pub overflow_add-line : goal.overflow_add-line
overflow_add-line c =
    let a = c.args in
    omega (arith, byte_within a.text.now c.in-Number.stop 10 (sym c.byte_at-behind.ensures ∙ c.if-behind-eq10.true) (omega arith))

pub returns-then-behind-eq10 : goal.returns-then-behind-eq10
returns-then-behind-eq10 c =
    pieces_line _ _ _ _ _ c.next_at-next.result c.next_at-next.ensures c.in-Number.is (sym c.byte_at-behind.ensures ∙ c.if-behind-eq10.true)

pub returns-in-End : goal.returns-in-End
returns-in-End c = pieces_is _ _ c.args.at c.next_at-next.result _ c.next_at-next.ensures c.in-End.is

pub returns-in-Wrong : goal.returns-in-Wrong
returns-in-Wrong c = pieces_is _ _ c.args.at c.next_at-next.result _ c.next_at-next.ensures c.in-Wrong.is

pub returns-else-behind-eq10 : goal.returns-else-behind-eq10
returns-else-behind-eq10 c =
    pieces_other _ _ _ _ _ c.next_at-next.result c.next_at-next.ensures c.in-Number.is (λ e. c.if-behind-eq10.false (c.byte_at-behind.ensures ∙ e))
