-- What the texts of switches are read as.
use Rattle.std.proofs.Common.{◌≡◌, Bool, true, false, Some, codes, refl, sym}
use Rattle.std.specs.Str.{chars, is_utf8}
use Rattle.serde_json.proofs.OnLiterals.{serde_json_on_literals}
use Rattle.spec_push.specs.declared.data_types.DataTypes.{DataTypes}
use Rattle.spec_sockets.specs.Switches.{switch_in_text}
use Rattle.spec_sockets.specs.declared.switch.Switch.TheVariants.{Enable}

pub types_are : (t : DataTypes) (c e : Bool) → t.calendars ≡ c → t.events ≡ e → Some (Enable (record { calendars = c; events = e })) ≡ Some (Enable t)
types_are t c e p q = λ i. Some (Enable (record { calendars = sym p i; events = sym q i }))

pub of_all : switch_in_text (codes "{\"@type\":\"WebSocketPushEnable\",\"dataTypes\":null}") ≡ Some (Enable (record { calendars = true; events = true }))
unfolding serde_json_on_literals is_utf8 chars
of_all = refl

pub of_calendars : switch_in_text (codes "{\"@type\":\"WebSocketPushEnable\",\"dataTypes\":[\"Calendar\"]}") ≡ Some (Enable (record { calendars = true; events = false }))
unfolding serde_json_on_literals is_utf8 chars
of_calendars = refl

pub of_events : switch_in_text (codes "{\"@type\":\"WebSocketPushEnable\",\"dataTypes\":[\"CalendarEvent\"]}") ≡ Some (Enable (record { calendars = false; events = true }))
unfolding serde_json_on_literals is_utf8 chars
of_events = refl

pub of_none : switch_in_text (codes "{\"@type\":\"WebSocketPushEnable\",\"dataTypes\":[]}") ≡ Some (Enable (record { calendars = false; events = false }))
unfolding serde_json_on_literals is_utf8 chars
of_none = refl
