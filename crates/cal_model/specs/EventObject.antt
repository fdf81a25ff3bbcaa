-- What is stored of an event, and what of it depends on its account (draft JMAP for Calendars; RFC 8984 section 4).
use Rattle.std.specs.Prelude.{ℕ, ℤ, List, ◌∷◌, ◌++◌, Bool, false, not, Option, Some, None, codes, is_some, take, unwrap_or, if◌then◌else◌}
use Rattle.std.specs.List.{list_all, list_any}
use Rattle.spec_events.specs.Events.{calendars_of, names_calendar}
use Rattle.spec_history.specs.History.{live_at, live_object}
use Rattle.spec_history.specs.ObjectId.{id_text}
use Rattle.spec_history.specs.declared.entry.Change.{Change}
use Rattle.spec_history.specs.declared.entry.Kind.TheVariants.{Calendar, Event}
use Rattle.spec_json.specs.Data.{Data, Pair, field, lookup, null, text}
use Rattle.spec_json.specs.Edit.{with_pair}
use Rattle.spec_json.specs.SameData.{same_data}
use Rattle.spec_json.specs.TreeData.{data_of}
use Rattle.spec_json.specs.declared.tree.Tree.{Tree}
use Rattle.spec_time.specs.LocalTimes.{utc_text}
use Rattle.property_table.specs.Table.{given}
use Rattle.sha1.specs.Sha1.{sha1}
use Rattle.uuid.specs.Parts.{with_variant, with_version}
use Rattle.uuid.specs.Text.{hyphenated_text, lower}
use Rattle.uuid.specs.Uuid.{namespace_url}
use Rattle.uuid.specs.declared.Variant.TheVariants.{RFC4122}
use Rattle.uuid.specs.declared.Version.TheVariants.{Sha1}

-- the version 5 UUID of a name in the namespace of URLs, in lower case with hyphens (RFC 9562 section 5.5)
abbrev pub named_uuid : List ℕ → List ℕ
named_uuid name = hyphenated_text lower (with_version (with_variant (take 16 (sha1 (namespace_url ++ name))) RFC4122) Sha1)

-- the uid that the server supplies (RFC 8984 section 4.1.2): that of the account's id, a slash and the event's id
abbrev pub supplied_uid : List ℕ → ℕ → List ℕ
supplied_uid account n = named_uuid (account ++ 47 ∷ id_text Event n)

-- the members with this value at a key where they have none
abbrev pub with_default : List ℕ → Data → List Pair → List Pair
with_default key value ps = if is_some (lookup key ps) then ps else with_pair key value ps

abbrev pub value_or_null : List ℕ → Data → Data
value_or_null key d = unwrap_or (field key d) null

-- an event keeps the moment of its create (RFC 8984 section 4.1.5)
abbrev pub moment_created : ℤ → Option Tree → Data
moment_created moment None = text (utc_text moment)
moment_created moment (Some before) = value_or_null (codes "created") (data_of before)

-- the members of event n with what the server sets at a moment and what it supplies
abbrev pub with_server_values : List ℕ → ℤ → ℕ → Option Tree → List Pair → List Pair
with_server_values account moment n before ps =
    with_default (codes "uid") (text (supplied_uid account n)) (with_default (codes "@type") (text (codes "Event"))
    (with_pair (codes "updated") (text (utc_text moment)) (with_pair (codes "created") (moment_created moment before)
    (with_pair (codes "id") (text (id_text Event n)) ps))))

-- what is stored of an event: the members that the client gives and that aren't null, with those of the server
abbrev pub event_members : List ℕ → ℤ → ℕ → Option Tree → List Pair → List Pair
event_members account moment n before ps = with_server_values account moment n before (given ps)

-- an event keeps its uid
abbrev pub has_other_uid : Option Tree → Data → Bool
has_other_uid None d = false
has_other_uid (Some before) d = not (same_data (value_or_null (codes "uid") d) (value_or_null (codes "uid") (data_of before)))

-- one of its calendars isn't live
abbrev pub names_missing_calendar : List Change → Data → Bool
names_missing_calendar cs d = not (list_all (λ n. is_some (live_object cs Calendar n)) (calendars_of d))

-- a live event is in this calendar
abbrev pub has_event : List Change → ℕ → Bool
has_event cs n = list_any (λ t. names_calendar n (data_of t)) (live_at cs Event)
