use denote.Param.Send.{sendable}
use Rattle.jmapd.proofs.Crossing.{file_account_sent}
use Rattle.jmapd.proofs.lock.FileLockAccountLock.open.Goals as goal

pub open-requires-send-B : goal.open-requires-send-B
open-requires-send-B c κs = search (file_account_sent, sendable) depth 60 fits 20000
