-- `command::read_command` meets its contract, by what stands behind the name. Assumes nothing.
use Rattle.command.proofs.Laws.{command_wrong, command_with}
use Rattle.command.proofs.read_command.Goals as goal

pub returns-in-None : goal.returns-in-None
returns-in-None c = command_wrong _ _ c.name_of-named.result _ _ c.name_of-named.ensures c.numbers_from-found.ensures c.in-None.is

pub returns-in-Some : goal.returns-in-Some
returns-in-Some c =
    command_with _ _ c.name_of-named.result _ _ c.name_of-named.ensures c.numbers_from-found.ensures _ _ c.in-Some.is c.line_with.ensures
