-- An object without bad properties starts in the years that an event may start in, and lasts as long as one may.
use Rattle.std.proofs.Common.{◌≡◌, ℕ, ℤ, List, [], Bool, true, false, not, Option, Some, None, codes, option_and_then, pos, unwrap_or, refl, sym, ap, ◌∙◌}
use Rattle.std.specs.Option.{option_map_or}
use Rattle.spec_events.specs.Events.{bad_event_properties, event_table, length_in, start_in}
use Rattle.spec_events.specs.Values.{is_short_duration, is_short_length, is_showing, is_start}
use Rattle.spec_json.specs.Data.{Data, null, truth, whole, text, list, object, lookup}
use Rattle.spec_json.specs.ObjectKeys.{keys_rise}
use Rattle.spec_json.specs.Parts.{as_text, is_null, members_in}
use Rattle.spec_site.specs.TimeZones.{ZoneText}
use Rattle.spec_time.specs.Durations.{duration_in, length_of}
use Rattle.spec_time.specs.LocalTimes.{local_in}
use Rattle.spec_time.specs.declared.length.Length.{Length}
use Rattle.property_table.proofs.TableLemmas.{lookup_filter, passes, value_kept}
use Rattle.property_table.specs.Table.{given, optional, required}
use Rattle.property_table.specs.Values.{is_text_that}
use Rattle.spec_json.proofs.DataLemmas.{field_is}

abbrev is_kept : List ℕ × Data → Bool
is_kept p = not (is_null p.1)

start_passes : (zones : List ZoneText) (d : Data) → keys_rise (members_in d) ≡ true → bad_event_properties zones d ≡ []
    → required (is_text_that is_start) (value_kept is_kept (codes "start") (lookup (codes "start") (members_in d))) ≡ true
unfolding event_table
start_passes zones d r none =
    ap (required (is_text_that is_start)) (sym (lookup_filter is_kept (codes "start") (members_in d) r)) ∙ passes (event_table zones) (given (members_in d)) (codes "start") none refl

pub shows : (found : Option ℤ) → option_map_or is_showing found false ≡ true → is_showing (unwrap_or found (pos 0)) ≡ true
shows None h = cc
shows (Some w) h = h

shows_at : (found : Option Data) → required (is_text_that is_start) (value_kept is_kept (codes "start") found) ≡ true → is_showing (unwrap_or (option_and_then local_in (option_and_then as_text found)) (pos 0)) ≡ true
shows_at None h = cc
shows_at (Some null) h = cc
shows_at (Some (truth b)) h = cc
shows_at (Some (whole z)) h = cc
shows_at (Some (list ds)) h = cc
shows_at (Some (object ms)) h = cc
shows_at (Some (text s)) h = shows (local_in s) h

pub start_shows : (zones : List ZoneText) (d : Data) → keys_rise (members_in d) ≡ true → bad_event_properties zones d ≡ [] → is_showing (start_in d) ≡ true
start_shows zones d r none =
    ap (λ found. is_showing (unwrap_or (option_and_then local_in (option_and_then as_text found)) (pos 0))) (field_is (codes "start") d)
    ∙ shows_at (lookup (codes "start") (members_in d)) (start_passes zones d r none)

duration_passes : (zones : List ZoneText) (d : Data) → keys_rise (members_in d) ≡ true → bad_event_properties zones d ≡ []
    → optional (is_text_that is_short_duration) (value_kept is_kept (codes "duration") (lookup (codes "duration") (members_in d))) ≡ true
unfolding event_table
duration_passes zones d r none =
    ap (optional (is_text_that is_short_duration)) (sym (lookup_filter is_kept (codes "duration") (members_in d) r))
    ∙ passes (event_table zones) (given (members_in d)) (codes "duration") none refl

pub is_short : (found : Option Length) → option_map_or is_short_length found false ≡ true → is_short_length (unwrap_or found (length_of 0 0)) ≡ true
is_short None h = cc
is_short (Some l) h = h

short_at : (found : Option Data) → optional (is_text_that is_short_duration) (value_kept is_kept (codes "duration") found) ≡ true
    → is_short_length (unwrap_or (option_and_then duration_in (option_and_then as_text found)) (length_of 0 0)) ≡ true
short_at None h = refl
short_at (Some null) h = refl
short_at (Some (truth b)) h = cc
short_at (Some (whole z)) h = cc
short_at (Some (list ds)) h = cc
short_at (Some (object ms)) h = cc
short_at (Some (text s)) h = is_short (duration_in s) h

pub length_is_short : (zones : List ZoneText) (d : Data) → keys_rise (members_in d) ≡ true → bad_event_properties zones d ≡ [] → is_short_length (length_in d) ≡ true
length_is_short zones d r none =
    ap (λ found. is_short_length (unwrap_or (option_and_then duration_in (option_and_then as_text found)) (length_of 0 0))) (field_is (codes "duration") d)
    ∙ short_at (lookup (codes "duration") (members_in d)) (duration_passes zones d r none)
