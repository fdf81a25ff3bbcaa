-- What comes of storing a calendar.
use Rattle.std.proofs.Common.{◌≡◌, inl, inr, ℕ, List, [], Bool, false, Option, Some, None, is_some, not, option_and_then, refl, sym, ap, ◌∙◌}
use Rattle.std.proofs.lemmas.Bool.{false≢true}
use Rattle.cal_model.specs.Calendar.{CalendarProperties, calendar_in, stored, text_or_null}
use Rattle.cal_model.specs.Fits.{IsObjectFit}
use Rattle.cal_model.specs.Operations.{after_tests, bad_of_calendar, exceeds_resources, has_other_zone, put, stored_calendar_outcome, within_quota, zone_given}
use Rattle.cal_model.specs.declared.outcome.Outcome.TheVariants.{Refused}
use Rattle.cal_model.specs.declared.set_error.SetError.TheVariants.{InvalidProperties}
use Rattle.spec_history.specs.History.{live_object}
use Rattle.spec_history.specs.declared.entry.Change.{Change}
use Rattle.spec_history.specs.declared.entry.Kind.TheVariants.{Calendar}
use Rattle.spec_json.specs.Data.{Data}
use Rattle.spec_json.specs.SameData.{same_data}
use Rattle.spec_json.specs.declared.tree.Tree.{Tree}
use Rattle.spec_json.specs.declared.tree.Tree.TheVariants.{Object}
use Rattle.spec_bookings.specs.Resources.{is_resource, zone_of_resource}
use Rattle.spec_site.specs.TimeZones.{ZoneText}
use Rattle.object_outcomes.specs.Judging.{IsBefore}
use Rattle.object_outcomes.proofs.NameLemmas.{refused_names}

-- a calendar with bad names is refused for them
pub bad_calendar : (zones : List ZoneText) (cs : List Change) (n : ℕ) (before : Option Tree) (names_id : Bool) (d : Data) (names : List (List ℕ)) → names ≡ bad_of_calendar zones cs before names_id d
    → (names ≡ [] → ⊥) → Refused (InvalidProperties names) ≡ stored_calendar_outcome zones cs n before names_id d
bad_calendar zones cs n before names_id d names is some =
    refused_names cs (exceeds_resources cs n d) None (put Calendar n (stored (calendar_in d))) names some
    ∙ ap (after_tests cs (exceeds_resources cs n d) None (put Calendar n (stored (calendar_in d)))) is

-- one without bad names is stored, if there is room
pub good_calendar : (zones : List ZoneText) (cs : List Change) (n : ℕ) (before : Option Tree) (names_id : Bool) (d : Data) → [] ≡ bad_of_calendar zones cs before names_id d
    → within_quota cs (exceeds_resources cs n d) None (put Calendar n (stored (calendar_in d))) ≡ stored_calendar_outcome zones cs n before names_id d
good_calendar zones cs n before names_id d is = ap (after_tests cs (exceeds_resources cs n d) None (put Calendar n (stored (calendar_in d)))) is

-- What is stored is of a resource where the object says so.

stored_zone_by : (zone : Option (List ℕ)) (c : CalendarProperties) → c.resource_zone ≡ zone → zone_of_resource (Object (stored c)) ≡ zone
stored_zone_by None c e = rw e refl
stored_zone_by (Some s) c e = rw e refl

pub stored_zone : (d : Data) → zone_of_resource (Object (stored (calendar_in d))) ≡ zone_given d
stored_zone d = stored_zone_by (zone_given d) (calendar_in d) refl

same_zone : (zone before : Option (List ℕ)) → not (same_data (text_or_null zone) (text_or_null before)) ≡ false → is_some zone ≡ is_some before
same_zone None None h = refl
same_zone None (Some t) h = absurd (false≢true (sym h))
same_zone (Some s) None h = absurd (false≢true (sym h))
same_zone (Some s) (Some t) h = refl

live_zone : (cs : List Change) (n : ℕ) (t : Tree) → live_object cs Calendar n ≡ Some t → is_some (zone_of_resource t) ≡ is_resource cs n
live_zone cs n t live = sym (ap (λ o. is_some (option_and_then zone_of_resource o)) live)

-- a calendar that stays of the resource that it was of may be stored
pub calendar_fits : (zones : List ZoneText) (cs : List Change) (n : ℕ) (before : Option Tree) (d : Data) → IsBefore cs Calendar n before → has_other_zone before d ≡ false
    → IsObjectFit zones cs Calendar n (Some (Object (stored (calendar_in d))))
calendar_fits zones cs n None d next same = inl next.0
calendar_fits zones cs n (Some t) d live same =
    inr (ap is_some (stored_zone d) ∙ same_zone (zone_given d) (zone_of_resource t) same ∙ live_zone cs n t live)
