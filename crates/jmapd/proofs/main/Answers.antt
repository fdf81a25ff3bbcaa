use denote.Exit.{no}
use denote.Param.Send.{arg_send, param_send, sendable}
use Rattle.std.proofs.Crossing.{crosses}
use Rattle.std.specs.contracts.rt.LibcRuntime as runtime
use Rattle.jmapd.proofs.Crossing.{desk_sent}
use Rattle.jmapd.proofs.main.Goals as goal

pub listen_kept-status-requires-send-F-D : goal.listen_kept-status-requires-send-F-D
listen_kept-status-requires-send-F-D c κs within = param_send _ _ (arg_send _ no _ (desk_sent runtime.the_row (search (crosses, sendable) depth 60 fits 20000)))
