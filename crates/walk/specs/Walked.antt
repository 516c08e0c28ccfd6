-- Where walking a text ends: at its end if it is read whole, else at the first text line that breaks a rule. 14 of the paper's "What is turned away".
-- Assumes nothing: these are definitions.
use Rattle.std.specs.Prelude.{ℕ, Result, Ok, Err}
use Rattle.text.specs.Machine.{Parse, Whole, Wrong}

abbrev pub walked_of : Parse → Result Unit ℕ
walked_of (Whole t) = Ok tt
walked_of (Wrong l) = Err l
