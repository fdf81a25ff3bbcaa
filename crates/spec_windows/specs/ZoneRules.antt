-- The rules of the time zones of a configuration.
use Rattle.std.specs.Prelude.{ℕ, pos, List, [], ◌∷◌, Option, Some, None, codes, unwrap_or, if◌then◌else◌}
use Rattle.std.specs.Str.{bytes_eq}
use Rattle.jiff_tz.specs.PosixReader.{read_whole}
use Rattle.jiff_tz.specs.PosixText.{TzText}
use Rattle.spec_events.specs.Events.{time_zone_in}
use Rattle.spec_json.specs.Data.{Data}
use Rattle.spec_site.specs.TimeZones.{ZoneText}

-- UTC, which is always there
abbrev pub utc_rule : TzText
utc_rule = record { std_name = codes "UTC"; std_seconds = pos 0; dst = None }

-- the rule of the first zone of this name
unfoldable pub listed_rule : List ZoneText → List ℕ → Option TzText
listed_rule [] name = None
listed_rule (z ∷ zs) name = if bytes_eq z.0 name then read_whole z.1 else listed_rule zs name

-- the rule of the zone of this name, none where there is no such zone
abbrev pub rule_of : List ZoneText → List ℕ → Option TzText
rule_of zones name = if bytes_eq name (codes "Etc/UTC") then Some utc_rule else listed_rule zones name

-- the rule of an event's zone; one without a zone is floating (RFC 8984 section 4.7.1), and has the zone of this name
abbrev pub rule_of_event : List ZoneText → List ℕ → Data → Option TzText
rule_of_event zones floating event = rule_of zones (unwrap_or (time_zone_in event) floating)
