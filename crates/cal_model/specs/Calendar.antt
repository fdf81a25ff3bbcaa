-- Calendars (draft JMAP for Calendars): what may stand in an object, and what it means.
use Rattle.std.specs.Prelude.{ℕ, ℤ, pos, List, [], ◌∷◌, Bool, true, Option, Some, None, is_some, codes, unwrap_or}
use Rattle.spec_json.specs.Data.{Data, Pair, null, truth, whole, text}
use Rattle.spec_json.specs.Parts.{number_at, text_at, truth_at}
use Rattle.spec_core.specs.Names.{is_name}
use Rattle.spec_history.specs.ObjectId.{object_number}
use Rattle.spec_history.specs.declared.entry.Kind.TheVariants.{Calendar}
use Rattle.spec_site.specs.TimeZones.{ZoneText, has_zone}
use Rattle.property_table.specs.Names.{has_name}
use Rattle.property_table.specs.Table.{Table, failing_of, names_of, never, optional, required}
use Rattle.property_table.specs.Values.{is_text, is_text_that, is_truth, is_unsigned_int}

abbrev pub is_calendar_id : List ℕ → Bool
is_calendar_id s = is_some (object_number Calendar s)

-- a calendar has these properties and no others
unfoldable pub calendar_table : List ZoneText → Table
calendar_table zones = record {
  rows =
      (codes "id", required (is_text_that is_calendar_id))
      ∷ (codes "name", required (is_text_that is_name))
      ∷ (codes "description", optional is_text)
      ∷ (codes "color", optional is_text)
      ∷ (codes "sortOrder", optional is_unsigned_int)
      ∷ (codes "isSubscribed", optional is_truth)
      ∷ (codes "isVisible", optional is_truth)
      ∷ (codes "timeZone", optional (is_text_that (has_zone zones)))
      ∷ (codes "resourceZone", optional (is_text_that (has_zone zones)))
      ∷ [];
  other = λ name. never;
}

-- the names of all properties of an object that a calendar may not have so, in byte order
abbrev pub bad_properties : List ZoneText → Data → List (List ℕ)
bad_properties zones d = failing_of (calendar_table zones) d

-- the name of a property
abbrev pub is_calendar_property : List ℕ → Bool
is_calendar_property name = has_name (names_of (calendar_table []).rows) name

-- the properties of a calendar
pub record CalendarProperties : Type 0 where
  pub id : List ℕ
  pub name : List ℕ
  pub description : Option (List ℕ)
  pub color : Option (List ℕ)
  pub sort_order : ℤ
  pub is_subscribed : Bool
  pub is_visible : Bool
  pub time_zone : Option (List ℕ)
  pub resource_zone : Option (List ℕ)

-- what an object without bad properties means, by the defaults of what it leaves out
abbrev pub calendar_in : Data → CalendarProperties
calendar_in d = record {
  id = unwrap_or (text_at (codes "id") d) [];
  name = unwrap_or (text_at (codes "name") d) [];
  description = text_at (codes "description") d;
  color = text_at (codes "color") d;
  sort_order = unwrap_or (number_at (codes "sortOrder") d) (pos 0);
  is_subscribed = unwrap_or (truth_at (codes "isSubscribed") d) true;
  is_visible = unwrap_or (truth_at (codes "isVisible") d) true;
  time_zone = text_at (codes "timeZone") d;
  resource_zone = text_at (codes "resourceZone") d;
}

abbrev pub text_or_null : Option (List ℕ) → Data
text_or_null None = null
text_or_null (Some s) = text s

-- the members of the object that is stored: all properties, in byte order of their names
abbrev pub stored : CalendarProperties → List Pair
stored c =
    (codes "color", text_or_null c.color) ∷ (codes "description", text_or_null c.description) ∷ (codes "id", text c.id)
    ∷ (codes "isSubscribed", truth c.is_subscribed) ∷ (codes "isVisible", truth c.is_visible) ∷ (codes "name", text c.name)
    ∷ (codes "resourceZone", text_or_null c.resource_zone) ∷ (codes "sortOrder", whole c.sort_order) ∷ (codes "timeZone", text_or_null c.time_zone) ∷ []
