-- An account may go to another thread. A struct within another is told of by its row as a field, so that each search goes down one struct alone.
use denote.Param.Send.{IsSend, sendable}
use Rattle.std.proofs.Crossing.{crosses, frees, send}
use Rattle.std.proofs.MapsCrossingOver.{BTreeSet-send}
use Rattle.spec_json.proofs.Crossing.{text_sent}
use Rattle.spec_json.proofs.tree.TreeList.TheLaws.TheKnot as tree
use Rattle.spec_json.specs.contracts.text.Text as text
use Rattle.resource_book.specs.contracts.room.Room as room
use Rattle.account_rooms.specs.contracts.slot.Slot as slot
use Rattle.account_rooms.specs.contracts.rooms.Rooms as rooms
use Rattle.spec_series.specs.contracts.exception.Exceptions as exceptions
use Rattle.spec_series.specs.contracts.series.Series as series
use Rattle.ghost_list.proofs.list.GhostList.TheSendSync as told
use Rattle.account_store.specs.contracts.kept.KeptEvent as kept_event
use Rattle.account_store.specs.contracts.store.Store as store
use Rattle.account_core.specs.contracts.reading.Reading as reading
use Rattle.account_core.specs.contracts.ledger.Ledger as ledger
use Rattle.account_core.specs.contracts.tally.Tally as tally
use Rattle.spec_history.specs.contracts.entry.Change as change
use Rattle.account_core.specs.contracts.trail.Trail as trail
use Rattle.account_core.specs.contracts.account.Account as account

exceptions_sent : IsSend exceptions.the_field.row
exceptions_sent = search (crosses, sendable) depth 60 fits 20000

room_sent : IsSend room.the_row
room_sent = search (exceptions_sent, crosses, sendable) depth 60 fits 20000

slot_sent : IsSend slot.the_row
slot_sent = search (room_sent, crosses, sendable) depth 60 fits 20000

rooms_sent : IsSend rooms.the_field.row
rooms_sent = search (slot_sent, crosses, sendable) depth 60 fits 20000

series_sent : IsSend series.the_row
series_sent = search (exceptions_sent, crosses, sendable) depth 60 fits 20000

event_sent : IsSend kept_event.the_row
event_sent = search (text_sent, series_sent, crosses, tree.crosses, sendable) depth 60 fits 20000

store_sent : IsSend store.the_field.row
store_sent = search (text_sent, event_sent, told.the_send, crosses, tree.crosses, sendable) depth 60 fits 20000

reading_sent : IsSend reading.the_row
reading_sent = search (series_sent, crosses, sendable) depth 60 fits 20000

trail_sent : IsSend trail.the_field.row
trail_sent = search (text_sent, crosses, tree.crosses, sendable) depth 60 fits 20000

change_sent : IsSend change.the_row
change_sent = search (text_sent, crosses, tree.crosses, sendable) depth 60 fits 20000

tally_sent : IsSend tally.the_field.row
tally_sent = search (crosses, sendable) depth 60 fits 20000

texts_sent : IsSend text.the_field.row
texts_sent = search (crosses, sendable) depth 60 fits 20000

ledger_sent : IsSend ledger.the_field.row
ledger_sent = search (texts_sent, rooms_sent, store_sent, change_sent, reading_sent, tally_sent, BTreeSet-send, send, frees, crosses, tree.crosses, sendable) depth 60 fits 20000

pub account_sent : IsSend account.the_row
account_sent = search (ledger_sent, trail_sent, crosses, sendable) depth 60 fits 20000
