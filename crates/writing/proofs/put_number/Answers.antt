use native.Mathlib.Omega.{arith}
use Rattle.writing.proofs.Widths.{digits_some, several_digits, one_digit}
use Rattle.writing.proofs.Laws.{digits_none, digits_next, digits_written}
use Rattle.writing.proofs.put_number.Goals as goal

pub loop-i-init : goal.loop-i-init
loop-i-init c = let w = c.number_width-width.ensures in digits_none _ _ _ w (omega arith)

pub loop-i-preserved : goal.loop-i-preserved
loop-i-preserved c =
    let p = c.loop-i.invariant.place in digits_next _ _ _ _ _ (several_digits c.loop-i.x (omega arith)) c.loop-i.invariant

-- one digit is left
pub overflow_cast-room-2 : goal.overflow_cast-room-2
overflow_cast-room-2 c = let p = c.loop-i.invariant.place in let x = one_digit c.loop-i.x (omega arith) in omega arith

pub overflow_add-room-2 : goal.overflow_add-room-2
overflow_add-room-2 c = let p = c.loop-i.invariant.place in let x = one_digit c.loop-i.x (omega arith) in omega arith

pub bounds-room-0 : goal.bounds-room-0
bounds-room-0 c = let d = digits_some c.args.v in omega arith

pub returns : goal.returns
returns c =
    let p = c.loop-i.invariant.place in
    digits_written _ _ _ _ _ _ (one_digit c.loop-i.x (omega arith)) c.number_width-width.ensures c.loop-i.invariant
