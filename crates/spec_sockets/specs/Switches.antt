-- Texts that have a client told of changes, or told no more (RFC 8887 sections 4.3.5.2 and 4.3.5.3).
use Rattle.std.specs.Prelude.{ℕ, List, Bool, true, Option, Some, None, codes, length, nat_lt, option_and_then, option_map, if◌then◌else◌}
use Rattle.std.specs.List.{list_any}
use Rattle.std.specs.Str.{bytes_eq}
use Rattle.spec_core.specs.declared.limits.TheConstants.{MAX_SIZE_REQUEST}
use Rattle.spec_json.specs.Data.{Data, field, null}
use Rattle.spec_json.specs.Json.{Reading, not_json, not_whole, reading, value}
use Rattle.spec_json.specs.Parts.{as_texts, text_at}
use Rattle.spec_push.specs.declared.data_types.DataTypes.{DataTypes}
use Rattle.spec_sockets.specs.Texts.{is_text_if_any, says_text}
use Rattle.spec_sockets.specs.declared.switch.Switch.{Switch}
use Rattle.spec_sockets.specs.declared.switch.Switch.TheVariants.{Disable, Enable}

abbrev pub is_among : List (List ℕ) → List ℕ → Bool
is_among names name = list_any (λ n. bytes_eq n name) names

abbrev pub all_types : DataTypes
all_types = record { calendars = true; events = true }

-- the types of these names; a name that is none of this server's is passed over
abbrev pub types_named : List (List ℕ) → DataTypes
types_named names = record { calendars = is_among names (codes "Calendar"); events = is_among names (codes "CalendarEvent") }

-- what `dataTypes` asks for: a list of names, or null for all types
abbrev pub types_in : Data → Option DataTypes
types_in null = Some all_types
types_in d = option_map types_named (as_texts d)

-- `dataTypes` has to be there, and `pushState` is absent or a text
abbrev pub enable_of : Data → Option Switch
enable_of d = if is_text_if_any (field (codes "pushState") d) then option_map (λ types. Enable types) (option_and_then types_in (field (codes "dataTypes") d)) else None

abbrev pub switch_of : Data → Option Switch
switch_of d =
    if says_text (codes "WebSocketPushEnable") (text_at (codes "@type") d) then enable_of d
    else if says_text (codes "WebSocketPushDisable") (text_at (codes "@type") d) then Some Disable else None

abbrev pub switch_by_reading : Reading → Option Switch
switch_by_reading not_json = None
switch_by_reading not_whole = None
switch_by_reading (value d) = switch_of d

-- the switch that a text is, where it is one
abbrev pub switch_in_text : List ℕ → Option Switch
switch_in_text bytes = if nat_lt MAX_SIZE_REQUEST (length bytes) then None else switch_by_reading (reading bytes)
