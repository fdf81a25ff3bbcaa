use denote.Param.Send.{sendable}
use Rattle.account_desk.proofs.Crossing.{account_sent}
use Rattle.account_desk.proofs.lock.LockedAccountAccountLock.open.Goals as goal

pub open-requires-send-B : goal.open-requires-send-B
open-requires-send-B c κs = search (account_sent, sendable) depth 60 fits 20000
