-- What workers are asked to do.
use Rattle.std.specs.Prelude.{Option, Some, None, option_and_then}
use Rattle.command_line.specs.Commands.{Command, Listen, batch, listen, stdio, workload}

abbrev pub listen_by : Command → Option Listen
listen_by (batch config user) = None
listen_by (stdio config) = None
listen_by (workload number size) = None
listen_by (listen l) = Some l

-- by a command, where there is one
abbrev pub listen_in : Option Command → Option Listen
listen_in c = option_and_then listen_by c
