use denote.Param.Send.{sendable}
use Rattle.jmapd.proofs.Crossing.{file_account_sent}
use Rattle.jmapd.proofs.lock.FileLockAccountLock.place_now.Goals as goal

pub place_now-requires-send-B : goal.place_now-requires-send-B
place_now-requires-send-B c κs = search (file_account_sent, sendable) depth 60 fits 20000
