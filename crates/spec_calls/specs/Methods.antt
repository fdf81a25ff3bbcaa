-- The methods, a row each (RFC 8620 sections 2, 4 and 5, draft JMAP for Calendars; the last is this server's own, as RFC 8620 section 1.8 allows).
use Rattle.std.specs.Prelude.{ℕ, List, [], ◌∷◌, Bool, true, false, Option, Some, None, if◌then◌else◌, option_and_then, option_map, codes}
use Rattle.std.specs.List.{list_all, list_any}
use Rattle.std.specs.Str.{bytes_eq}
use Rattle.spec_calls.specs.Arguments.{Argument, availability_arguments, calendar_set_arguments, changes_arguments, event_set_arguments, get_arguments, is_well_given, query_arguments, query_changes_arguments, slot_arguments}
use Rattle.spec_calls.specs.Asking.{availability_asks, calendar_set_asks, changes_asks, get_asks, query_asks, query_changes_asks, set_asks, slot_asks}
use Rattle.spec_calls.specs.declared.call.Asks.{Asks}
use Rattle.spec_calls.specs.declared.call.Call.{Call}
use Rattle.spec_calls.specs.declared.method.Method.{Method}
use Rattle.spec_calls.specs.declared.method.Method.TheVariants.{Echo, CalendarGet, CalendarChanges, CalendarSet, EventGet, EventChanges, EventSet, EventQuery, EventQueryChanges, GetAvailability, FindSlot}
use Rattle.spec_core.specs.Capabilities.{core, calendars, availability, slots}
use Rattle.spec_history.specs.declared.entry.Kind.TheVariants.{Calendar, Event}
use Rattle.spec_json.specs.Data.{Pair, lookup}

pub record Row : Type 0 where
  pub name : List ℕ
  -- the capability that a request must use to call it
  pub capability : List ℕ
  -- whether it changes an account
  pub is_set : Bool
  -- the arguments that it takes; others are ignored
  pub arguments : List Argument
  -- what it asks of an account by its arguments; none where it asks nothing
  pub asks : Option (List Pair → Asks)

abbrev pub row : Method → Row
row Echo = record { name = codes "Core/echo"; capability = core; is_set = false; arguments = []; asks = None }
row CalendarGet = record { name = codes "Calendar/get"; capability = calendars; is_set = false; arguments = get_arguments; asks = Some (λ a. get_asks a Calendar) }
row CalendarChanges = record { name = codes "Calendar/changes"; capability = calendars; is_set = false; arguments = changes_arguments; asks = Some (λ a. changes_asks a Calendar) }
row CalendarSet = record { name = codes "Calendar/set"; capability = calendars; is_set = true; arguments = calendar_set_arguments; asks = Some calendar_set_asks }
row EventGet = record { name = codes "CalendarEvent/get"; capability = calendars; is_set = false; arguments = get_arguments; asks = Some (λ a. get_asks a Event) }
row EventChanges = record { name = codes "CalendarEvent/changes"; capability = calendars; is_set = false; arguments = changes_arguments; asks = Some (λ a. changes_asks a Event) }
row EventSet = record { name = codes "CalendarEvent/set"; capability = calendars; is_set = true; arguments = event_set_arguments; asks = Some (λ a. set_asks a Event None) }
row EventQuery = record { name = codes "CalendarEvent/query"; capability = calendars; is_set = false; arguments = query_arguments; asks = Some query_asks }
row EventQueryChanges = record { name = codes "CalendarEvent/queryChanges"; capability = calendars; is_set = false; arguments = query_changes_arguments; asks = Some query_changes_asks }
row GetAvailability = record { name = codes "Principal/getAvailability"; capability = availability; is_set = false; arguments = availability_arguments; asks = Some availability_asks }
row FindSlot = record { name = codes "Resource/findSlot"; capability = slots; is_set = false; arguments = slot_arguments; asks = Some slot_asks }

abbrev pub methods : List Method
methods = Echo ∷ CalendarGet ∷ CalendarChanges ∷ CalendarSet ∷ EventGet ∷ EventChanges ∷ EventSet ∷ EventQuery ∷ EventQueryChanges ∷ GetAvailability ∷ FindSlot ∷ []

abbrev pub first_named : List ℕ → List Method → Option Method
first_named name [] = None
first_named name (m ∷ ms) = if bytes_eq name (row m).name then Some m else first_named name ms

-- the method of a name
abbrev pub method_named : List ℕ → Option Method
method_named name = first_named name methods

abbrev pub uses : List (List ℕ) → List ℕ → Bool
uses using u = list_any (λ v. bytes_eq v u) using

abbrev pub if_used : List (List ℕ) → Method → Option Method
if_used using m = if uses using (row m).capability then Some m else None

-- the method of a name, where the request uses its capability
abbrev pub method_used : List (List ℕ) → List ℕ → Option Method
method_used using name = option_and_then (if_used using) (method_named name)

-- each argument that a method needs is there, and each that is there has its kind
abbrev pub are_well_given : Method → List Pair → Bool
are_well_given m arguments = list_all (λ a. is_well_given a (lookup a.name arguments)) (row m).arguments

-- the call on an account that a method makes of its arguments, with the created ids of the request so far
abbrev pub call_of : List Pair → List (List ℕ × List ℕ) → Method → Option Call
call_of arguments created m = option_map (λ asks. record { created = created; asks = asks arguments }) (row m).asks
