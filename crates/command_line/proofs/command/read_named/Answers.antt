use Rattle.std.proofs.Common.{rules}
use Rattle.command_line.specs.Commands.{command_named}
use Rattle.command_line.proofs.command.read_named.Goals as goal

pub returns-in-workload : goal.returns-in-workload
unfolding command_named
returns-in-workload c = search rules depth 80 fits 40000

pub returns-in-listen : goal.returns-in-listen
unfolding command_named
returns-in-listen c = search rules depth 80 fits 40000

pub returns-in_default : goal.returns-in_default
unfolding command_named
returns-in_default c = search rules depth 80 fits 40000
