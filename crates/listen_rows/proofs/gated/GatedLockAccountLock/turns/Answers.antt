use denote.Param.Send.{sendable}
use Rattle.listen_rows.proofs.Crossing.{gated_sent}
use Rattle.listen_rows.proofs.gated.GatedLockAccountLock.turns.Goals as goal

pub turns-requires-send-B : goal.turns-requires-send-B
turns-requires-send-B c κs = search (gated_sent, sendable) depth 60 fits 20000
