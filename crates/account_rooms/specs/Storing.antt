-- When storing an event is refused as a clash.
use Rattle.std.specs.Prelude.{◌≡◌, ◌↔◌, ℕ, ℤ, Bool, true, false, List, [], Option, None, Some, Ok, codes, is_some}
use Rattle.cal_model.specs.CreatedIds.{object_named, resolved_object, resolved_patch}
use Rattle.cal_model.specs.EventObject.{event_members}
use Rattle.cal_model.specs.Occurrences.{occurrence_named}
use Rattle.cal_model.specs.Operations.{Ground, Operation, bad_of_event, create_outcome, destroy, event_outcome, has_other_id, outcome_of, put, update}
use Rattle.cal_model.specs.Quota.{exceeds_quota}
use Rattle.cal_model.specs.declared.outcome.Outcome.{Outcome}
use Rattle.cal_model.specs.declared.outcome.Outcome.TheVariants.{Accepted, Refused}
use Rattle.cal_model.specs.declared.set_error.SetError.TheVariants.{Clashes}
use Rattle.account_rooms.specs.Twice.{IsFirstClash, WouldCoverTwice}
use Rattle.spec_events.specs.Events.{names_calendar}
use Rattle.property_table.specs.Table.{given}
use Rattle.spec_history.specs.History.{next_number}
use Rattle.spec_history.specs.declared.entry.Change.{Change}
use Rattle.spec_history.specs.declared.entry.Kind.TheVariants.{Calendar, Event}
use Rattle.spec_json.specs.Data.{Data, Pair, lookup, members_of, object}
use Rattle.spec_json.specs.Parts.{members_in}
use Rattle.spec_json.specs.Patch.{patched}
use Rattle.spec_json.specs.TreeData.{data_of}
use Rattle.spec_json.specs.declared.tree.Tree.{Tree}
use Rattle.spec_json.specs.declared.tree.Tree.TheVariants.{Object}
use Rattle.spec_recurrence.specs.SeriesOf.{series_in}
use Rattle.spec_bookings.specs.BookedResources.{has_full_resource}
use Rattle.spec_bookings.specs.Resources.{is_resource, resources_of}
use Rattle.spec_bookings.specs.declared.clash.Clash.{Clash}
use Rattle.spec_series.specs.declared.series.Series.{Series}

-- it was refused as a clash
abbrev pub IsClashed : Outcome → Type 0
IsClashed o = (calendar : ℕ) × ((clash : Clash) × (o ≡ Refused (Clashes calendar clash)))

-- Storing event n with members that a client gives, after these changes, in place of what it was before.
module _ (g : Ground) (cs : List Change) (n : ℕ) (before : Option Tree) (names_id : Bool) (ps : List Pair) where
  -- what would be stored
  abbrev pub stored_members : List Pair
  stored_members = event_members g.base.account_id g.moment n before ps

  abbrev pub stored_event : Data
  stored_event = object (members_of stored_members)

  -- No other refusal holds: no property is bad, and the account and each resource that the event books have room for it.
  pub record MeetsNoEarlier : Type 0 where
    pub valid : bad_of_event g.base.zones cs before names_id stored_event ≡ []
    pub fits : exceeds_quota cs (record { kind = Event; id = n; object = Some (Object stored_members) }) ≡ false
    pub room : has_full_resource g.base.zones cs n stored_event ≡ false

  -- the event is in a live resource calendar, of which it would have x covered twice
  pub record WouldClash (calendar : ℕ) (x : ℤ) : Type 0 where
    pub resource : is_resource cs calendar ≡ true
    pub there : names_calendar calendar stored_event ≡ true
    pub series : Series
    pub is : series_in g.base.zones stored_event ≡ Some series
    pub twice : WouldCoverTwice g.base.zones cs n series calendar x

  -- the clash is that of the first resource, in order of creation, in which there is one
  abbrev pub IsToldClash : ℕ → Clash → Type 0
  IsToldClash calendar clash = (s : Series) × ((series_in g.base.zones stored_event ≡ Some s) × IsFirstClash g.base.zones cs n s (resources_of cs stored_event) calendar clash)

  -- what comes of it
  abbrev pub outcome : Outcome
  outcome = event_outcome g cs n before names_id ps

-- A booking that meets no earlier refusal is refused as a clash exactly where a second of a resource would be covered twice, on all days without end.
abbrev pub ClashesAreExact : Type 0
ClashesAreExact = (g : Ground) (cs : List Change) (n : ℕ) (before : Option Tree) (names_id : Bool) (ps : List Pair) → MeetsNoEarlier g cs n before names_id ps
    → IsClashed (outcome g cs n before names_id ps) ↔ ((calendar : ℕ) × ((x : ℤ) × WouldClash g cs n before names_id ps calendar x))

-- The refusal tells the first such second of the first such resource, and the first other event that covers it.
abbrev pub ClashesAreFirst : Type 0
ClashesAreFirst = (g : Ground) (cs : List Change) (n : ℕ) (before : Option Tree) (names_id : Bool) (ps : List Pair) (calendar : ℕ) (clash : Clash)
    → outcome g cs n before names_id ps ≡ Refused (Clashes calendar clash) → MeetsNoEarlier g cs n before names_id ps × IsToldClash g cs n before names_id ps calendar clash

-- Where neither an earlier refusal holds nor such a second is, the event is stored.
abbrev pub OthersAreStored : Type 0
OthersAreStored = (g : Ground) (cs : List Change) (n : ℕ) (before : Option Tree) (names_id : Bool) (ps : List Pair) → MeetsNoEarlier g cs n before names_id ps
    → ((calendar : ℕ) (x : ℤ) → WouldClash g cs n before names_id ps calendar x → ⊥) → outcome g cs n before names_id ps ≡ Accepted (put Event n (stored_members g cs n before names_id ps))

-- An id names a live event and no occurrence, and the patch makes it d, where the request has created these ids.
pub record IsPatchedEvent (cs : List Change) (created : List (List ℕ × List ℕ)) (id : List ℕ) (patch : List Pair) (n : ℕ) (before : Tree) (d : Data) : Type 0 where
  pub whole : occurrence_named cs Event id ≡ None
  pub named : object_named cs Event id ≡ Some (n, before)
  pub applies : patched (data_of before) (resolved_patch created Event patch) ≡ Ok d

-- an operation stores event n as d in place of what it was: an update, of an event that the call neither destroys nor updated before
abbrev pub Stores : List Change → List (List ℕ × List ℕ) → Operation → ℕ → Tree → Data → Type 0
Stores cs created (update id patch is_destroyed is_repeated) n before d = IsPatchedEvent cs created id patch n before d × (is_destroyed ≡ false) × (is_repeated ≡ false)
Stores cs created (destroy id) n before d = ⊥

-- Where the request has created these ids, a set stores events so: a create its own members under the next number, with nothing before, and an
-- update that stores an event the patched one. Nothing else that it does is refused as a clash.
pub record IsStoringAlone (g : Ground) (cs : List Change) (created : List (List ℕ × List ℕ)) : Type 0 where
  pub creates : (p : Pair) → create_outcome g Event created cs p ≡ outcome g cs (next_number cs Event) None
      (is_some (lookup (codes "id") (given (resolved_object created Event (members_in p.1))))) (resolved_object created Event (members_in p.1))
  pub updates : (o : Operation) (n : ℕ) (before : Tree) (d : Data) → Stores cs created o n before d
      → outcome_of g cs Event created o ≡ outcome g cs n (Some before) (has_other_id Event n (members_in d)) (members_in d)
  pub others : (o : Operation) → IsClashed (outcome_of g cs Event created o) → (n : ℕ) × ((before : Tree) × ((d : Data) × Stores cs created o n before d))
  pub new_calendars : (p : Pair) → IsClashed (create_outcome g Calendar created cs p) → ⊥
  pub calendars : (o : Operation) → IsClashed (outcome_of g cs Calendar created o) → ⊥

abbrev pub ClashesAreOfStoring : Type 0
ClashesAreOfStoring = (g : Ground) (cs : List Change) (created : List (List ℕ × List ℕ)) → IsStoringAlone g cs created
