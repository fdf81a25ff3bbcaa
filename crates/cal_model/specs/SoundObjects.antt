-- Sound objects: live objects that an account would store as they stand. What is sound is told from the changes and the zones alone.
use Rattle.std.specs.Prelude.{ℕ, List, [], ◌∷◌, ◌==◌, ◌&&◌, Bool, true, false, Option, Some, None, length, option_map, if◌then◌else◌}
use Rattle.std.specs.Option.{option_map_or, option_or}
use Rattle.cal_model.specs.Calendar.{bad_properties, calendar_in, stored}
use Rattle.cal_model.specs.Operations.{bad_of_event}
use Rattle.cal_model.specs.Sound.{has_own_id, has_server_values}
use Rattle.spec_history.specs.History.{ids_at, live_object}
use Rattle.spec_history.specs.declared.entry.Change.{Change}
use Rattle.spec_history.specs.declared.entry.Kind.{Kind}
use Rattle.spec_history.specs.declared.entry.Kind.TheVariants.{Calendar, Event}
use Rattle.spec_json.specs.Data.{Data, members_of, object}
use Rattle.spec_json.specs.SameData.{same_data}
use Rattle.spec_json.specs.TreeData.{data_of}
use Rattle.spec_json.specs.declared.tree.Tree.{Tree}
use Rattle.spec_site.specs.TimeZones.{ZoneText}

module _ (zones : List ZoneText) (cs : List Change) where
  -- A calendar has its own id, no property of it is bad, and it is in the form in which it is stored. An event has what the server sets, and no
  -- property of it is bad, nor made so by its calendars.
  abbrev pub is_sound_object : Kind → ℕ → Data → Bool
  is_sound_object Calendar n d = (has_own_id Calendar n d && (length (bad_properties zones d) == 0)) && same_data (object (members_of (stored (calendar_in d)))) d
  is_sound_object Event n d = has_server_values Event n d && (length (bad_of_event zones cs None false d) == 0)

  -- the first of some numbers whose object is live and isn't sound
  abbrev pub unsound_among : Kind → List ℕ → Option ℕ
  unsound_among kind [] = None
  unsound_among kind (n ∷ ns) = if option_map_or (λ t. is_sound_object kind n (data_of t)) (live_object cs kind n) true then unsound_among kind ns else Some n

  -- the first live object that isn't, calendars before events, in order of creation
  abbrev pub unsound_object : Option (Kind × ℕ)
  unsound_object = option_or (option_map (λ n. (Calendar, n)) (unsound_among Calendar (ids_at cs Calendar))) (option_map (λ n. (Event, n)) (unsound_among Event (ids_at cs Event)))
