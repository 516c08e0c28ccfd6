-- `writetable::write_table` meets its contract. Assumes nothing.
use mathlib.Core.Path.{sym, ◌∙◌}
use native.Mathlib.Omega.{arith}
use Rattle.writetable.proofs.Laws.{write_short, write_whole, write_refused, write_accepted}
use Rattle.refusal.proofs.Passed.{passed_on}
use Rattle.writetable.proofs.write_table.Goals as goal

pub returns-in_err-check_table : goal.returns-in_err-check_table
returns-in_err-check_table c = rw (passed_on _ c.from_residual.ensures.1) (write_refused _ _ _ _ (sym c.check_table.ensures ∙ c.in_err-check_table.was))

pub text_width-width-requires : goal.text_width-width-requires
text_width-width-requires c = sym c.check_table.ensures ∙ c.in_ok-check_table.was

pub returns-then-width-room : goal.returns-then-width-room
returns-then-width-room c =
    let w = c.text_width-width.ensures in
    let h = c.if-width-room.true in
    write_short _ _ (omega arith) ∙ write_accepted _ _ _ (sym c.check_table.ensures ∙ c.in_ok-check_table.was)

pub put_text-requires : goal.put_text-requires
put_text-requires c =
    let w = c.text_width-width.ensures in
    let h = c.if-width-room.false in
    record { accepted = sym c.check_table.ensures ∙ c.in_ok-check_table.was; fits = omega arith }

pub returns : goal.returns
returns c =
    let w = c.text_width-width.ensures in
    let h = c.if-width-room.false in
    write_whole _ _ _ _ (omega arith) c.text_width-width.ensures c.put_text.ensures
    ∙ write_accepted _ _ _ (sym c.check_table.ensures ∙ c.in_ok-check_table.was)
