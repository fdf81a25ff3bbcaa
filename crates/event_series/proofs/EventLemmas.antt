-- An object without bad properties starts in the years that an event may start in, and lasts as long as one may.
use Rattle.std.proofs.Common.{◌≡◌, ◌≤◌, ℕ, ℤ, pos, List, [], ◌∷◌, Bool, true, false, not, Option, Some, None, codes, is_some, option_and_then, unwrap_or, if◌then◌else◌, arith, refl, sym, ap, ◌∙◌}
use Rattle.std.proofs.lemmas.Bool.{and_parts}
use Rattle.std.proofs.lemmas.Bool.Decides.{nat_tests}
use Rattle.std.specs.Option.{option_map_or}
use Rattle.std.specs.Str.{bytes_eq}
use Rattle.jiff_core.proofs.SignedLemmas.{signed_arith}
use Rattle.spec_events.specs.Events.{event_table, length_in, start_in}
use Rattle.spec_events.specs.Values.{is_short_duration, is_short_length, is_showing, is_start}
use Rattle.spec_json.specs.Data.{Data, Pair, null, truth, whole, text, list, object, field, lookup}
use Rattle.spec_json.specs.Parts.{as_text, is_null, members_in}
use Rattle.spec_recurrence.specs.Overrides.{exceptions_in, overrides_in}
use Rattle.spec_recurrence.specs.Recurrence.{are_overrides, bad_properties_of_event, recurring_event_table}
use Rattle.spec_series.specs.SeriesLimits.{wall_seconds}
use Rattle.spec_site.specs.TimeZones.{ZoneText}
use Rattle.spec_time.specs.Durations.{duration_in, length_of}
use Rattle.spec_time.specs.LocalTimes.{local_in}
use Rattle.spec_time.specs.Walls.{is_in_years}
use Rattle.spec_time.specs.declared.length.Length.{Length}
use Rattle.property_table.proofs.TableLemmas.{passes}
use Rattle.property_table.specs.Names.{has_name}
use Rattle.property_table.specs.Table.{Table, failing_of, given, names_of, test_at}

field_is : (k : List ℕ) (d : Data) → field k d ≡ lookup k (members_in d)
field_is k (object ms) = refl
field_is k _ = refl

-- A value that isn't null is found among the members that aren't null.

found_by : (k : List ℕ) (p : Pair) (ps : List Pair) (v : Data) → is_null v ≡ false → (lookup k ps ≡ Some v → lookup k (given ps) ≡ Some v)
    → (same is_left_out : Bool) → bytes_eq p.0 k ≡ same → is_null p.1 ≡ is_left_out → (if same then Some p.1 else lookup k ps) ≡ Some v
    → lookup k (if not is_left_out then p ∷ given ps else given ps) ≡ Some v
found_by k p ps v there next true true e n h = cc
found_by k p ps v there next true false e n h = rw e h
found_by k p ps v there next false true e n h = next h
found_by k p ps v there next false false e n h = rw e (next h)

given_found : (k : List ℕ) (ps : List Pair) (v : Data) → is_null v ≡ false → lookup k ps ≡ Some v → lookup k (given ps) ≡ Some v
given_found k [] v there h = cc
given_found k (p ∷ ps) v there h = found_by k p ps v there (given_found k ps v there) (bytes_eq p.0 k) (is_null p.1) refl refl h

-- the value of a row that isn't null passes its test
pub value_passes : (t : Table) (d : Data) (k : List ℕ) (v : Data) → failing_of t d ≡ [] → has_name (names_of t.rows) k ≡ true → is_null v ≡ false → field k d ≡ Some v
    → test_at t k (Some v) ≡ true
value_passes t d k v none named there h =
    ap (test_at t k) (sym (given_found k (members_in d) v there (sym (field_is k d) ∙ h))) ∙ passes t (given (members_in d)) k none named

-- The tests of `start` and `duration`.

pub record HasTests (t : Table) : Type 0 where
  pub has_start : has_name (names_of t.rows) (codes "start") ≡ true
  pub has_duration : has_name (names_of t.rows) (codes "duration") ≡ true
  pub start : (s : List ℕ) → test_at t (codes "start") (Some (text s)) ≡ is_start s
  pub duration : (s : List ℕ) → test_at t (codes "duration") (Some (text s)) ≡ is_short_duration s

pub alone_tests : (zones : List ZoneText) → HasTests (event_table zones)
unfolding event_table
alone_tests zones = record { has_start = refl; has_duration = refl; start = λ s. refl; duration = λ s. refl }

pub recurring_tests : (zones : List ZoneText) (d : Data) → HasTests (recurring_event_table zones d)
unfolding event_table recurring_event_table
recurring_tests zones d = record { has_start = refl; has_duration = refl; start = λ s. refl; duration = λ s. refl }

shows : (found : Option ℤ) → option_map_or is_showing found false ≡ true → is_showing (unwrap_or found (pos 0)) ≡ true
shows None h = cc
shows (Some w) h = h

shows_at : (t : Table) (d : Data) → HasTests t → failing_of t d ≡ [] → (found : Option Data) → field (codes "start") d ≡ found
    → is_showing (unwrap_or (option_and_then local_in (option_and_then as_text found)) (pos 0)) ≡ true
shows_at t d tests none None e = refl
shows_at t d tests none (Some null) e = refl
shows_at t d tests none (Some (truth b)) e = refl
shows_at t d tests none (Some (whole z)) e = refl
shows_at t d tests none (Some (list ds)) e = refl
shows_at t d tests none (Some (object ms)) e = refl
shows_at t d tests none (Some (text s)) e =
    shows (local_in s) (sym (tests.start s) ∙ value_passes t d (codes "start") (text s) none tests.has_start refl e)

pub start_shows : (t : Table) (d : Data) → HasTests t → failing_of t d ≡ [] → is_showing (start_in d) ≡ true
start_shows t d tests none = shows_at t d tests none (field (codes "start") d) refl

is_short : (found : Option Length) → option_map_or is_short_length found false ≡ true → is_short_length (unwrap_or found (length_of 0 0)) ≡ true
is_short None h = cc
is_short (Some l) h = h

short_at : (t : Table) (d : Data) → HasTests t → failing_of t d ≡ [] → (found : Option Data) → field (codes "duration") d ≡ found
    → is_short_length (unwrap_or (option_and_then duration_in (option_and_then as_text found)) (length_of 0 0)) ≡ true
short_at t d tests none None e = refl
short_at t d tests none (Some null) e = refl
short_at t d tests none (Some (truth b)) e = refl
short_at t d tests none (Some (whole z)) e = refl
short_at t d tests none (Some (list ds)) e = refl
short_at t d tests none (Some (object ms)) e = refl
short_at t d tests none (Some (text s)) e =
    is_short (duration_in s) (sym (tests.duration s) ∙ value_passes t d (codes "duration") (text s) none tests.has_duration refl e)

pub length_is_short : (t : Table) (d : Data) → HasTests t → failing_of t d ≡ [] → is_short_length (length_in d) ≡ true
length_is_short t d tests none = short_at t d tests none (field (codes "duration") d) refl

-- As a series has them.

pub in_years : (w : ℤ) → is_showing w ≡ true → is_in_years w ≡ true
in_years w h = grind (arith, signed_arith)

pub few_seconds : (l : Length) → is_short_length l ≡ true → wall_seconds l ≤ 31622400
few_seconds l h = grind (arith, nat_tests)

pub event_is_short : (zones : List ZoneText) (d : Data) → bad_properties_of_event zones d ≡ [] → wall_seconds (length_in d) ≤ 31622400
event_is_short zones d none = few_seconds (length_in d) (length_is_short (recurring_event_table zones d) d (recurring_tests zones d) none)

-- An event without bad properties may have its overrides.

abbrev may_have : List ZoneText → Data → Type 0
may_have zones d = is_some (exceptions_in zones d) ≡ true

without_overrides : (zones : List ZoneText) (d : Data) → overrides_in d ≡ Some [] → may_have zones d
without_overrides zones d e = rw e refl

overrides_test : (zones : List ZoneText) (d v : Data) → test_at (recurring_event_table zones d) (codes "recurrenceOverrides") (Some v) ≡ are_overrides zones d v
unfolding recurring_event_table
overrides_test zones d v = refl

overrides_named : (zones : List ZoneText) (d : Data) → has_name (names_of (recurring_event_table zones d).rows) (codes "recurrenceOverrides") ≡ true
unfolding recurring_event_table
overrides_named zones d = refl

with_overrides : (zones : List ZoneText) (d v : Data) → bad_properties_of_event zones d ≡ [] → field (codes "recurrenceOverrides") d ≡ Some v → is_null v ≡ false → may_have zones d
with_overrides zones d v none e there =
    (and_parts _ _ (sym (overrides_test zones d v) ∙ value_passes (recurring_event_table zones d) d (codes "recurrenceOverrides") v none (overrides_named zones d) there e)).1

may_have_by : (zones : List ZoneText) (d : Data) → bad_properties_of_event zones d ≡ [] → (found : Option Data) → field (codes "recurrenceOverrides") d ≡ found → may_have zones d
may_have_by zones d none None e = without_overrides zones d (rw e refl)
may_have_by zones d none (Some null) e = without_overrides zones d (rw e refl)
may_have_by zones d none (Some (truth b)) e = with_overrides zones d (truth b) none e refl
may_have_by zones d none (Some (whole z)) e = with_overrides zones d (whole z) none e refl
may_have_by zones d none (Some (text s)) e = with_overrides zones d (text s) none e refl
may_have_by zones d none (Some (list ds)) e = with_overrides zones d (list ds) none e refl
may_have_by zones d none (Some (object ms)) e = with_overrides zones d (object ms) none e refl

pub has_exceptions : (zones : List ZoneText) (d : Data) → bad_properties_of_event zones d ≡ [] → is_some (exceptions_in zones d) ≡ true
has_exceptions zones d none = may_have_by zones d none (field (codes "recurrenceOverrides") d) refl
