use denote.Param.Send.{sendable}
use Rattle.listen_rows.proofs.Crossing.{gated_sent}
use Rattle.listen_rows.proofs.gated.GatedLockAccountLock.place_now.Goals as goal

pub place_now-requires-send-B : goal.place_now-requires-send-B
place_now-requires-send-B c κs = search (gated_sent, sendable) depth 60 fits 20000
