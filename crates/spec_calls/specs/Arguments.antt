-- The arguments that each method takes (RFC 8620 section 5, draft JMAP for Calendars). Others are ignored.
use Rattle.std.specs.Prelude.{ℕ, List, [], ◌∷◌, Bool, true, false, not, Option, Some, None, codes, is_some, option_and_then}
use Rattle.spec_json.specs.Data.{Data, null}
use Rattle.spec_json.specs.Parts.{as_text, as_truth, as_whole, as_texts, as_list, as_object, all_some}
use Rattle.spec_calls.specs.declared.method.Argument.{Argument as Listed}
use Rattle.spec_calls.specs.declared.method.Argument.TheVariants.{Needs, Takes}
use Rattle.spec_calls.specs.declared.method.Shape.{Shape}
use Rattle.spec_calls.specs.declared.method.Shape.TheVariants.{Text, Number, Truth, Texts, Objects, Object}

-- a name, the kind of JSON that the value has, and whether a call must give it
pub record Argument : Type 0 where
  pub name : List ℕ
  pub shape : Shape
  pub is_required : Bool

abbrev pub needs : List ℕ → Argument
needs name = record { name = name; shape = Text; is_required = true }

abbrev pub takes : List ℕ → Shape → Argument
takes name shape = record { name = name; shape = shape; is_required = false }

-- what an argument in the code's table stands for
abbrev pub argument_of : Listed → Argument
argument_of (Needs name) = needs name.now
argument_of (Takes name shape) = takes name.now shape

abbrev pub get_arguments : List Argument
get_arguments = needs (codes "accountId") ∷ takes (codes "ids") Texts ∷ takes (codes "properties") Texts ∷ []

abbrev pub changes_arguments : List Argument
changes_arguments = needs (codes "accountId") ∷ needs (codes "sinceState") ∷ takes (codes "maxChanges") Number ∷ []

abbrev pub event_set_arguments : List Argument
event_set_arguments = needs (codes "accountId") ∷ takes (codes "ifInState") Text ∷ takes (codes "create") Object
    ∷ takes (codes "update") Object ∷ takes (codes "destroy") Texts ∷ []

abbrev pub calendar_set_arguments : List Argument
calendar_set_arguments = takes (codes "onDestroyRemoveEvents") Truth ∷ event_set_arguments

abbrev pub filter_arguments : List Argument
filter_arguments = needs (codes "accountId") ∷ takes (codes "filter") Object ∷ takes (codes "sort") Objects
    ∷ takes (codes "calculateTotal") Truth ∷ takes (codes "expandRecurrences") Truth ∷ takes (codes "timeZone") Text ∷ []

abbrev pub query_arguments : List Argument
query_arguments = takes (codes "position") Number ∷ takes (codes "anchor") Text ∷ takes (codes "anchorOffset") Number
    ∷ takes (codes "limit") Number ∷ filter_arguments

abbrev pub query_changes_arguments : List Argument
query_changes_arguments = needs (codes "sinceQueryState") ∷ takes (codes "maxChanges") Number ∷ takes (codes "upToId") Text ∷ filter_arguments

abbrev pub availability_arguments : List Argument
availability_arguments = needs (codes "accountId") ∷ needs (codes "id") ∷ needs (codes "utcStart") ∷ needs (codes "utcEnd") ∷ takes (codes "timeZone") Text ∷ []

-- of a method of this server's own (RFC 8620 section 1.8)
abbrev pub slot_arguments : List Argument
slot_arguments = needs (codes "accountId") ∷ needs (codes "calendarId") ∷ needs (codes "duration") ∷ needs (codes "after") ∷ needs (codes "before")
    ∷ takes (codes "recurrenceRules") Objects ∷ []

abbrev pub has_shape : Shape → Data → Bool
has_shape Text d = is_some (as_text d)
has_shape Number d = is_some (as_whole d)
has_shape Truth d = is_some (as_truth d)
has_shape Texts d = is_some (as_texts d)
has_shape Objects d = is_some (option_and_then (all_some as_object) (as_list d))
has_shape Object d = is_some (as_object d)

-- an argument that is absent or null isn't required, and another has its shape
abbrev pub is_well_given : Argument → Option Data → Bool
is_well_given a None = not a.is_required
is_well_given a (Some null) = not a.is_required
is_well_given a (Some d) = has_shape a.shape d
