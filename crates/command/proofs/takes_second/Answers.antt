-- `command::takes_second` meets its contract, by the command of the line. Assumes nothing.
use mathlib.Core.Path.{◌∙◌, ap}
use Rattle.command.specs.Command.{CommandLine, command_second, takes_second}
use Rattle.command.proofs.takes_second.Goals as goal

pub returns : goal.returns
unfolding takes_second
returns c = c.command_second.ensures ∙ ap (λ (z : CommandLine). command_second z.line.command) c.read_command-line.ensures
