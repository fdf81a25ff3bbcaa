use Rattle.account_core.proofs.Rooms.{room_of_none, room_of_some}
use Rattle.account_core.proofs.ledger.Ledger.room_of.Goals as goal

pub returns-clause-none : goal.returns-clause-none
returns-clause-none c = room_of_none _ _ _ c.args.calendar c.room_of.result c.args.self.now.rooms_now c.room_of.ensures.none

pub returns-clause-some : goal.returns-clause-some
returns-clause-some c = room_of_some _ _ _ c.args.calendar c.room_of.result c.args.self.now.rooms_now c.room_of.ensures.some
