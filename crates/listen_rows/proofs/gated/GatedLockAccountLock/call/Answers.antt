use denote.Param.Send.{sendable}
use Rattle.listen_rows.proofs.Crossing.{gated_sent}
use Rattle.listen_rows.proofs.gated.GatedLockAccountLock.call.Goals as goal

pub call-requires-send-B : goal.call-requires-send-B
call-requires-send-B g c κs = search (gated_sent, sendable) depth 60 fits 20000
