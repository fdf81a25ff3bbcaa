use denote.Param.Send.{sendable}
use Rattle.account_desk.proofs.Crossing.{account_sent}
use Rattle.account_desk.proofs.lock.LockedAccountAccountLock.turns.Goals as goal

pub turns-requires-send-B : goal.turns-requires-send-B
turns-requires-send-B c κs = search (account_sent, sendable) depth 60 fits 20000
