-- The laws of rooms whose calendars and events are put again.
use Rattle.std.proofs.Common.{Some}
use Rattle.std.proofs.lemmas.List.MinMax.{IsStrictWeakOrder-by_number}
use Rattle.account_rooms.proofs.CalendarsAgain.{calendar_again}
use Rattle.account_rooms.proofs.Following.{event_follows}
use Rattle.account_rooms.proofs.RoomsAgain.{same_rooms}
use Rattle.account_rooms.proofs.laws.rooms_are_of_live_objects.Goals as goal

pub returns-clause-calendar : goal.returns-clause-calendar
returns-clause-calendar c = λ zones cs id t rs h new. calendar_again zones cs id t rs h new

pub returns-clause-event : goal.returns-clause-event
returns-clause-event c = λ zones cs id t rs h fit. event_follows zones cs id (Some t) rs h fit

pub returns-clause-same : goal.returns-clause-same
returns-clause-same c = λ zones again cs are rs h. same_rooms (IsStrictWeakOrder-by_number (λ n. n)) zones again cs are rs h
