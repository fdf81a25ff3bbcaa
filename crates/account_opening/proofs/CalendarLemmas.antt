-- What an event's calendars make bad of it, where the live calendars are the same.
use Rattle.std.proofs.Common.{◌≡◌, not, ℕ, List, true, false, None, refl, filter, is_some, option_and_then, ap}
use Rattle.std.specs.List.{list_all}
use Rattle.std.specs.Option.{option_map_or}
use Rattle.cal_model.specs.EventObject.{names_missing_calendar}
use Rattle.cal_model.specs.Operations.{bad_of_event}
use Rattle.cal_model.specs.SoundObjects.{is_sound_object}
use Rattle.spec_bookings.specs.BookingRules.{has_long_override, is_in_other_zone, is_in_zone, is_long_booking}
use Rattle.spec_bookings.specs.Resources.{resources_at, resources_of, zone_of_resource}
use Rattle.spec_events.specs.Events.{calendars_of, names_calendar}
use Rattle.spec_history.specs.History.{live_object}
use Rattle.spec_history.specs.declared.entry.Change.{Change}
use Rattle.spec_history.specs.declared.entry.Kind.TheVariants.{Calendar, Event}
use Rattle.spec_json.specs.Data.{Data}
use Rattle.spec_site.specs.TimeZones.{ZoneText}

module _ (zones : List ZoneText) (again cs : List Change) (calendars : (n : ℕ) → live_object again Calendar n ≡ live_object cs Calendar n) (resources : resources_at again ≡ resources_at cs) (d : Data) where
  pub same_of : resources_of again d ≡ resources_of cs d
  same_of = ap (filter (λ n. names_calendar n d)) resources

  same_missing : names_missing_calendar again d ≡ names_missing_calendar cs d
  same_missing = λ i. not (list_all (λ n. is_some (calendars n i)) (calendars_of d))

  same_zones : is_in_other_zone again d ≡ is_in_other_zone cs d
  same_zones = λ i. not (list_all (λ n. option_map_or (is_in_zone d) (option_and_then zone_of_resource (calendars n i)) true) (same_of i))

  same_long : is_long_booking again d ≡ is_long_booking cs d
  same_long = rw same_of refl

  same_override : has_long_override zones again d ≡ has_long_override zones cs d
  same_override = rw same_of refl

  same_bad : bad_of_event zones again None false d ≡ bad_of_event zones cs None false d
  same_bad = rw (same_missing, same_zones, same_long, same_override) refl

  -- so it is as sound here as there
  pub same_sound : (id : ℕ) → is_sound_object zones again Event id d ≡ is_sound_object zones cs Event id d
  same_sound id = rw same_bad refl
