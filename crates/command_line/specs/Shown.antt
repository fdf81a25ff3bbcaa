-- What contracts see of a command.
use Rattle.std.specs.Prelude.{option_map}
use Rattle.command_line.specs.Commands as commands
use Rattle.command_line.specs.KeptWords as words
use Rattle.command_line.specs.ListenKeptWords as kept_words
use Rattle.command_line.specs.WebsocketWords as socket_words
use Rattle.command_line.specs.declared.command.Command.{Command}
use Rattle.command_line.specs.declared.crew.SocketCrew.{SocketCrew}
use Rattle.command_line.specs.declared.kept.KeptCommand.{KeptCommand}
use Rattle.command_line.specs.declared.listen.Listen.{Listen as Listening}
use Rattle.command_line.specs.declared.listen_kept.ListenKept.{ListenKept}
use Rattle.command_line.specs.declared.websocket.Websocket.{Websocket}
use Rattle.command_line.specs.declared.workload.Workload.{Workload as Work}
use Rattle.command_line.specs.declared.command.Command.TheVariants.{Batch, Listen, Stdio, Workload}

abbrev pub workload_shown : Work → commands.Command
workload_shown w = commands.workload w.number w.size

abbrev pub crew_shown : SocketCrew → commands.SocketCrew
crew_shown c = record { port = c.port; workers = c.workers }

abbrev pub listen_shown : Listening → commands.Listen
listen_shown l = record { config = l.config.now; port = l.port; workers = l.workers; connections = l.connections; log = l.log; sockets = option_map crew_shown l.sockets }

abbrev pub kept_shown : KeptCommand → words.KeptCommand
kept_shown k = record { config = k.config.now; journal = k.journal.now; user = option_map (λ name. name.now) k.user }

abbrev pub listen_kept_shown : ListenKept → kept_words.ListenKept
listen_kept_shown l = record { listen = listen_shown l.listen; journals = l.journals.now }

abbrev pub websocket_shown : Websocket → socket_words.Websocket
websocket_shown w = record { config = w.config.now; port = w.port; connections = w.connections }

abbrev pub command_shown : Command → commands.Command
command_shown (Batch config user) = commands.batch (option_map (λ name. name.now) config) (option_map (λ name. name.now) user)
command_shown (Stdio config) = commands.stdio config.now
command_shown (Workload work) = workload_shown work
command_shown (Listen asked) = commands.listen (listen_shown asked)
