-- `command::found_at` meets its contract, by whether a number was found. Assumes nothing.
use mathlib.Core.Path.{sym, ◌∙◌, ap}
use Rattle.cursor.specs.declared.Token.{Token}
use Rattle.command.specs.Command.{as_next, found_number}
use Rattle.command.proofs.found_at.Goals as goal

pub returns-in_default : goal.returns-in_default
unfolding found_number
returns-in_default c =
    let n = c.number_at-token in
    ap (as_next n.result.stop) (sym c.in_default.is) ∙ ap (λ (t : Token). as_next t.stop t.found) n.ensures

pub returns : goal.returns
unfolding found_number
returns c =
    let n = c.number_at-token in
    ap (as_next n.result.stop) (sym c.in-Some.is) ∙ ap (λ (t : Token). as_next t.stop t.found) n.ensures
