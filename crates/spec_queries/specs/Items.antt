-- What the comparators of a query see of an event (draft JMAP for Calendars, RFC 8984 sections 4.1 and 4.2).
use Rattle.std.specs.Prelude.{ℕ, ℤ, pos, List, [], Bool, Option, Some, None, codes, option_and_then, unwrap_or, if◌then◌else◌}
use Rattle.spec_events.specs.Events.{start_in}
use Rattle.spec_json.specs.Data.{Data}
use Rattle.spec_json.specs.Parts.{text_at}
use Rattle.spec_json.specs.TreeData.{data_of}
use Rattle.spec_json.specs.declared.tree.Tree.{Tree}
use Rattle.spec_queries.specs.declared.item.Item.{Item}
use Rattle.spec_site.specs.TimeZones.{ZoneText}
use Rattle.spec_time.specs.LocalTimes.{utc_in}
use Rattle.spec_windows.specs.Clocks.{instant_in}
use Rattle.spec_windows.specs.ZoneRules.{rule_of_event}

-- the instant of its own start, whatever its overrides
abbrev pub start_instant : List ZoneText → List ℕ → Data → ℤ
start_instant zones floating d = unwrap_or (option_and_then (λ rule. instant_in rule (start_in d)) (rule_of_event zones floating d)) (pos 0)

-- the text at a key, empty where there is none
abbrev pub text_or_empty : List ℕ → Data → List ℕ
text_or_empty key d = unwrap_or (text_at key d) []

-- the moment that the UTCDate at a key names
abbrev pub utc_moment : List ℕ → Data → ℤ
utc_moment key d = unwrap_or (option_and_then utc_in (text_at key d)) (pos 0)

abbrev pub item_of : List ZoneText → List ℕ → Data → Item
item_of zones floating d = record {
  start = start_instant zones floating d;
  uid = text_or_empty (codes "uid") d;
  title = text_or_empty (codes "title") d;
  created = utc_moment (codes "created") d;
  updated = utc_moment (codes "updated") d;
}

-- what a query sees of an event's object: its item, and nothing where the filter doesn't hold of it
abbrev pub seen_where : (Data → Bool) → List ZoneText → List ℕ → Tree → Option Item
seen_where holds zones floating event = if holds (data_of event) then Some (item_of zones floating (data_of event)) else None
