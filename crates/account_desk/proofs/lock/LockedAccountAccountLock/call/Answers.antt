use denote.Param.Send.{sendable}
use Rattle.account_desk.proofs.Crossing.{account_sent}
use Rattle.account_desk.proofs.lock.LockedAccountAccountLock.call.Goals as goal

pub call-requires-send-B : goal.call-requires-send-B
call-requires-send-B g c κs = search (account_sent, sendable) depth 60 fits 20000
