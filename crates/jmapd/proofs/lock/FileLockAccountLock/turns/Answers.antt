use denote.Param.Send.{sendable}
use Rattle.jmapd.proofs.Crossing.{file_account_sent}
use Rattle.jmapd.proofs.lock.FileLockAccountLock.turns.Goals as goal

pub turns-requires-send-B : goal.turns-requires-send-B
turns-requires-send-B c κs = search (file_account_sent, sendable) depth 60 fits 20000
