use denote.Param.Send.{sendable}
use Rattle.jmapd.proofs.Crossing.{file_account_sent}
use Rattle.jmapd.proofs.lock.FileLockAccountLock.call.Goals as goal

pub call-requires-send-B : goal.call-requires-send-B
call-requires-send-B g c κs = search (file_account_sent, sendable) depth 60 fits 20000
