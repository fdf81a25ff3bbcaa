-- What comes of creating, updating or destroying one object (RFC 8620 section 5.3).
use Rattle.std.specs.Prelude.{ℕ, ℤ, List, [], ◌∷◌, ◌++◌, ◌==◌, ◌&&◌, ◌||◌, Bool, false, not, Option, Some, None, Result, Ok, Err, is_some, codes, filter, length, nat_le, option_map, if◌then◌else◌}
use Rattle.std.specs.Option.{option_map_or}
use Rattle.std.specs.Str.{bytes_eq}
use Rattle.cal_model.specs.Calendar.{bad_properties, calendar_in, stored, text_or_null}
use Rattle.cal_model.specs.CreatedIds.{object_named, resolved_object, resolved_patch}
use Rattle.cal_model.specs.EventObject.{event_members, has_event, has_other_uid, names_missing_calendar}
use Rattle.cal_model.specs.Occurrences.{occurrence_named}
use Rattle.cal_model.specs.Quota.{exceeds_quota}
use Rattle.cal_model.specs.declared.outcome.Outcome.{Outcome}
use Rattle.cal_model.specs.declared.outcome.Outcome.TheVariants.{Accepted, Refused}
use Rattle.cal_model.specs.declared.set_error.SetError.{SetError}
use Rattle.cal_model.specs.declared.set_error.SetError.TheVariants.{CalendarHasEvent, Clashes, Forbidden, InvalidPatch, InvalidProperties, NotFound, OverQuota, WillDestroy}
use Rattle.spec_history.specs.Base.{Base}
use Rattle.spec_history.specs.History.{next_number}
use Rattle.spec_history.specs.ObjectId.{id_text}
use Rattle.spec_history.specs.declared.entry.Change.{Change}
use Rattle.spec_history.specs.declared.entry.Kind.{Kind}
use Rattle.spec_history.specs.declared.entry.Kind.TheVariants.{Calendar, Event}
use Rattle.spec_json.specs.Data.{Data, Pair, lookup, members_of, object, text}
use Rattle.spec_json.specs.Edit.{with_pair}
use Rattle.spec_json.specs.Parts.{as_text, members_in, text_at}
use Rattle.spec_json.specs.Patch.{patched}
use Rattle.spec_json.specs.SameData.{same_data}
use Rattle.spec_json.specs.TreeData.{data_of}
use Rattle.spec_json.specs.declared.tree.Tree.{Tree}
use Rattle.spec_json.specs.declared.tree.Tree.TheVariants.{Object}
use Rattle.spec_recurrence.specs.Recurrence.{bad_properties_of_event}
use Rattle.spec_bookings.specs.BookingRules.{has_long_override, is_in_other_zone, is_long_booking}
use Rattle.spec_bookings.specs.BookedResources.{clash_of_event, has_full_resource}
use Rattle.spec_bookings.specs.Resources.{resources_at, zone_of_resource}
use Rattle.spec_bookings.specs.declared.limits.TheConstants.{MAX_RESOURCES}
use Rattle.spec_bookings.specs.declared.clash.Clash.{Clash}
use Rattle.spec_site.specs.TimeZones.{ZoneText}
use Rattle.property_table.specs.Names.{put_name}
use Rattle.property_table.specs.Table.{given}

-- what an operation is judged against, beside the changes before it
pub record Ground : Type 0 where
  pub base : Base
  pub moment : ℤ

-- One object that a set changes: updated by a patch, with whether the call also destroys it and whether an earlier update of the
-- call names it; or destroyed.
pub data Operation : Type 0 where
  update : List ℕ → List Pair → Bool → Bool → Operation
  destroy : List ℕ → Operation

abbrev pub put : Kind → ℕ → List Pair → Change
put kind n ps = record { kind = kind; id = n; object = Some (Object ps) }

abbrev pub removal : Kind → ℕ → Change
removal kind n = record { kind = kind; id = n; object = None }

-- a reason to refuse, where its test holds
abbrev pub if_holds : Bool → SetError → Option SetError
if_holds holds e = if holds then Some e else None

-- bad properties, all of them, where there are some
abbrev pub if_bad : List (List ℕ) → Option SetError
if_bad [] = None
if_bad (name ∷ names) = Some (InvalidProperties (name ∷ names))

-- refused for the first of these reasons that holds, or else what comes of it
abbrev pub unless : List (Option SetError) → Outcome → Outcome
unless [] o = o
unless (r ∷ rs) o = option_map_or Refused r (unless rs o)

-- A change is made unless properties of its object are bad, the account would have more than it may or its resources are full, or the
-- event would clash in a resource.
abbrev pub after_tests : List Change → Bool → Option (ℕ × Clash) → Change → List (List ℕ) → Outcome
after_tests cs is_full clash c names = unless (
    if_bad names
    ∷ if_holds (exceeds_quota cs c || is_full) OverQuota
    ∷ option_map (λ q. Clashes q.0 q.1) clash
    ∷ []) (Accepted c)

-- the same where no property is bad
abbrev pub within_quota : List Change → Bool → Option (ℕ × Clash) → Change → Outcome
within_quota cs is_full clash c = after_tests cs is_full clash c []

-- the object of these members, with the id that the server sets
abbrev pub with_own_id : Kind → ℕ → List Pair → Data
with_own_id kind n ps = object (members_of (with_pair (codes "id") (text (id_text kind n)) ps))

abbrev pub with_name_if : Bool → List ℕ → List (List ℕ) → List (List ℕ)
with_name_if b name names = if b then put_name name names else names

-- the time zone of a resource
abbrev pub zone_given : Data → Option (List ℕ)
zone_given d = text_at (codes "resourceZone") d

-- a calendar stays that of the resource, if any, and with its time zone, that it is created for
abbrev pub has_other_zone : Option Tree → Data → Bool
has_other_zone None d = false
has_other_zone (Some before) d = not (same_data (text_or_null (zone_given d)) (text_or_null (zone_of_resource before)))

-- the calendar would be one resource more than an account may have
abbrev pub exceeds_resources : List Change → ℕ → Data → Bool
exceeds_resources cs n d = is_some (zone_given d) && nat_le MAX_RESOURCES (length (filter (λ m. not (m == n)) (resources_at cs)))

abbrev pub is_this_text : Data → List ℕ → Bool
is_this_text d s = option_map_or (λ t. bytes_eq t s) (as_text d) false

-- an object keeps its id
abbrev pub has_other_id : Kind → ℕ → List Pair → Bool
has_other_id kind n ps = option_map_or (λ d. not (is_this_text d (id_text kind n))) (lookup (codes "id") (given ps)) false

-- a calendar in which events are
abbrev pub is_in_use : List Change → Kind → ℕ → Bool
is_in_use cs Calendar n = has_event cs n
is_in_use cs Event n = false

module _ (zones : List ZoneText) (cs : List Change) where
  -- the bad properties of a calendar, with those that what it was before makes bad
  abbrev pub bad_of_calendar : Option Tree → Bool → Data → List (List ℕ)
  bad_of_calendar before names_id d =
      with_name_if names_id (codes "id") (with_name_if (has_other_zone before d) (codes "resourceZone") (bad_properties zones d))

  -- what comes of storing a calendar that has its id
  abbrev pub stored_calendar_outcome : ℕ → Option Tree → Bool → Data → Outcome
  stored_calendar_outcome n before names_id d =
      after_tests cs (exceeds_resources cs n d) None (put Calendar n (stored (calendar_in d))) (bad_of_calendar before names_id d)

  -- what the resources that an event is in make bad
  abbrev pub bad_of_booking : Data → List (List ℕ) → List (List ℕ)
  bad_of_booking d names = with_name_if (has_long_override zones cs d) (codes "recurrenceOverrides")
      (with_name_if (is_long_booking cs d) (codes "duration") (with_name_if (is_in_other_zone cs d) (codes "timeZone") names))

  -- the bad properties of an event, with those that its account and what it was before make bad
  abbrev pub bad_of_event : Option Tree → Bool → Data → List (List ℕ)
  bad_of_event before names_id d = with_name_if names_id (codes "id") (with_name_if (has_other_uid before d) (codes "uid")
      (with_name_if (names_missing_calendar cs d) (codes "calendarIds") (bad_of_booking d (bad_properties_of_event zones d))))

  -- what comes of storing an event that has what the server sets
  abbrev pub stored_event_outcome : ℕ → Option Tree → Bool → List Pair → Outcome
  stored_event_outcome n before names_id ps = after_tests cs (has_full_resource zones cs n (object (members_of ps)))
      (clash_of_event zones cs n (object (members_of ps))) (put Event n ps) (bad_of_event before names_id (object (members_of ps)))

-- what comes of removing an object that is there
abbrev pub destroyed_outcome : List Change → Kind → Option (ℕ × Tree) → Outcome
destroyed_outcome cs kind None = Refused NotFound
destroyed_outcome cs kind (Some q) = unless (if_holds (is_in_use cs kind q.0) CalendarHasEvent ∷ []) (within_quota cs false None (removal kind q.0))

module _ (g : Ground) (cs : List Change) where
  -- what comes of storing calendar n with these members, in place of what it was before; `names_id` says whether the client gives an id
  -- that it may not give
  abbrev pub calendar_outcome : ℕ → Option Tree → Bool → List Pair → Outcome
  calendar_outcome n before names_id ps = stored_calendar_outcome g.base.zones cs n before names_id (with_own_id Calendar n ps)

  -- what comes of storing event n with these members, in place of what it was before
  abbrev pub event_outcome : ℕ → Option Tree → Bool → List Pair → Outcome
  event_outcome n before names_id ps = stored_event_outcome g.base.zones cs n before names_id (event_members g.base.account_id g.moment n before ps)

  abbrev pub object_outcome : Kind → ℕ → Option Tree → Bool → List Pair → Outcome
  object_outcome Calendar n before names_id ps = calendar_outcome n before names_id ps
  object_outcome Event n before names_id ps = event_outcome n before names_id ps

  -- a new object has no id yet
  abbrev pub created_outcome : Kind → List Pair → Outcome
  created_outcome kind ps = object_outcome kind (next_number cs kind) None (is_some (lookup (codes "id") (given ps))) ps

  abbrev pub patched_outcome : Kind → ℕ → Tree → Result Data (List ℕ) → Outcome
  patched_outcome kind n before (Err key) = Refused (InvalidPatch key)
  patched_outcome kind n before (Ok d) = object_outcome kind n (Some before) (has_other_id kind n (members_in d)) (members_in d)

  abbrev pub updated_outcome : Kind → List Pair → Bool → Bool → Option (ℕ × Tree) → Outcome
  updated_outcome kind patch is_destroyed is_repeated None = Refused NotFound
  updated_outcome kind patch is_destroyed is_repeated (Some q) = unless (
      if_holds is_destroyed WillDestroy
      ∷ if_holds is_repeated (InvalidPatch [])
      ∷ []) (patched_outcome kind q.0 q.1 (patched (data_of q.1) patch))

  -- an occurrence can't be changed by itself
  abbrev pub unless_occurrence : Option Tree → Bool → Outcome → Outcome
  unless_occurrence occurrence is_destroyed o = unless (
      if_holds (is_some occurrence && is_destroyed) WillDestroy
      ∷ if_holds (is_some occurrence) Forbidden
      ∷ []) o

  -- the first reason why an operation is refused after these changes, or else the change that it makes, where the request has
  -- created these ids
  abbrev pub outcome_of : Kind → List (List ℕ × List ℕ) → Operation → Outcome
  outcome_of kind created (update id patch is_destroyed is_repeated) = unless_occurrence (occurrence_named cs kind id) is_destroyed
      (updated_outcome kind (resolved_patch created kind patch) is_destroyed is_repeated (object_named cs kind id))
  outcome_of kind created (destroy id) = unless_occurrence (occurrence_named cs kind id) false (destroyed_outcome cs kind (object_named cs kind id))

abbrev pub changes_in : Outcome → List Change
changes_in (Accepted c) = c ∷ []
changes_in (Refused e) = []

-- a creation id and the id that the object got
abbrev pub created_id : Pair → Outcome → List (List ℕ × List ℕ)
created_id p (Accepted c) = (p.0, id_text c.kind c.id) ∷ []
created_id p (Refused e) = []

-- what comes of a create, given under its creation id, where the request has created these ids
abbrev pub create_outcome : Ground → Kind → List (List ℕ × List ℕ) → List Change → Pair → Outcome
create_outcome g kind created cs p = created_outcome g cs kind (resolved_object created kind (members_in p.1))

-- what comes of creates, each after the changes of those before it and with the ids that they created
abbrev pub outcomes_of_creates : Ground → Kind → List (List ℕ × List ℕ) → List Change → List Pair → List Outcome
outcomes_of_creates g kind created cs [] = []
outcomes_of_creates g kind created cs (p ∷ ps) = create_outcome g kind created cs p
    ∷ outcomes_of_creates g kind (created ++ created_id p (create_outcome g kind created cs p)) (cs ++ changes_in (create_outcome g kind created cs p)) ps

-- what comes of operations, each after the changes of those before it
abbrev pub outcomes : Ground → Kind → List (List ℕ × List ℕ) → List Change → List Operation → List Outcome
outcomes g kind created cs [] = []
outcomes g kind created cs (o ∷ os) = outcome_of g cs kind created o ∷ outcomes g kind created (cs ++ changes_in (outcome_of g cs kind created o)) os
