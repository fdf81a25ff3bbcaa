use denote.Param.Send.{sendable}
use Rattle.listen_rows.proofs.Crossing.{gated_sent}
use Rattle.listen_rows.proofs.gated.GatedLockAccountLock.open.Goals as goal

pub open-requires-send-B : goal.open-requires-send-B
open-requires-send-B c κs = search (gated_sent, sendable) depth 60 fits 20000
