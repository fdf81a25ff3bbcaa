use denote.Param.Send.{sendable}
use Rattle.account_desk.proofs.Crossing.{account_sent}
use Rattle.account_desk.proofs.lock.LockedAccountAccountLock.place_now.Goals as goal

pub place_now-requires-send-B : goal.place_now-requires-send-B
place_now-requires-send-B c κs = search (account_sent, sendable) depth 60 fits 20000
