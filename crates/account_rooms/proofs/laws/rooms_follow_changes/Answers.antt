-- The laws of rooms.
use Rattle.account_rooms.proofs.Following.{no_rooms, rooms_may, rooms_more}
use Rattle.account_rooms.proofs.laws.rooms_follow_changes.Goals as goal

pub returns-clause-none : goal.returns-clause-none
returns-clause-none c = no_rooms

pub returns-clause-more : goal.returns-clause-more
returns-clause-more c = rooms_more

pub returns-clause-may : goal.returns-clause-may
returns-clause-may c = rooms_may
