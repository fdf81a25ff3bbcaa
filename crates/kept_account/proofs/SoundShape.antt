-- What a sound change puts is an object that isn't deep, and its account had room.
use Rattle.std.proofs.Common.{◌≡◌, ◌≤◌, ◌<◌, ◌||◌, ℕ, List, [], ◌∷◌, Bool, true, false, not, Option, Some, None, codes, option_map, refl, sym, ap, ◌∙◌, arith, length}
use Rattle.std.proofs.lemmas.Bool.{false≢true, ltb-true, not-false, or_parts}
use Rattle.std.specs.Prelude.{IfSome, nat_lt}
use Rattle.cal_model.specs.Calendar.{bad_properties, calendar_in, stored}
use Rattle.cal_model.specs.Operations.{after_tests, bad_of_booking, bad_of_calendar, bad_of_event, destroyed_outcome, exceeds_resources, has_other_zone, if_holds, is_in_use, put, removal, unless, within_quota}
use Rattle.cal_model.specs.Quota.{exceeds_quota}
use Rattle.cal_model.specs.Sound.{has_number, has_stored_form, is_sound, leaves, outcome_again}
use Rattle.cal_model.specs.declared.limits.TheConstants.{MAX_CHANGES}
use Rattle.cal_model.specs.declared.outcome.Outcome.{Outcome}
use Rattle.cal_model.specs.declared.outcome.Outcome.TheVariants.{Accepted, Refused}
use Rattle.cal_model.specs.declared.set_error.SetError.TheVariants.{CalendarHasEvent, Clashes, OverQuota}
use Rattle.cal_model.specs.EventObject.{has_other_uid, names_missing_calendar as misses_calendar}
use Rattle.journal_keeper.specs.EntryText.{IsObjectTree, object_data}
use Rattle.object_outcomes.proofs.NameLemmas.{none_named}
use Rattle.object_outcomes.proofs.SoundLemmas.{sound_parts}
use Rattle.kept_account.proofs.ShallowObjects.{calendar_within, event_within}
use Rattle.spec_bookings.specs.BookedResources.{clash_of_event, has_full_resource}
use Rattle.spec_bookings.specs.BookingRules.{has_long_override, is_in_other_zone, is_long_booking}
use Rattle.spec_bookings.specs.declared.clash.Clash.{Clash}
use Rattle.spec_history.specs.History.{live_object}
use Rattle.spec_history.specs.declared.entry.Change.{Change}
use Rattle.spec_history.specs.declared.entry.Kind.{Kind}
use Rattle.spec_history.specs.declared.entry.Kind.TheVariants.{Calendar, Event}
use Rattle.spec_json.specs.Data.{Data, Pair, depth, members_of, object, pairs_back, pairs_of}
use Rattle.spec_json.specs.Fit.{IsFit}
use Rattle.spec_json.specs.TreeData.{data_of}
use Rattle.spec_json.specs.declared.tree.Tree.{Tree}
use Rattle.spec_json.specs.declared.tree.Tree.TheVariants.{Null, Truth, Whole, Text, List as Listed, Object}
use Rattle.spec_recurrence.specs.Recurrence.{bad_properties_of_event}
use Rattle.spec_site.specs.TimeZones.{ZoneText}

-- ---- what is accepted

-- the account has room for one change more
abbrev HasRoom : List Change → Type 0
HasRoom cs = length cs < MAX_CHANGES

room_for : (cs : List Change) (is_full over : Bool) (clash : Option (ℕ × Clash)) (c b : Change) → (exceeds_quota cs c || is_full) ≡ over
    → unless (None ∷ if_holds over OverQuota ∷ option_map (λ q. Clashes q.0 q.1) clash ∷ []) (Accepted c) ≡ Accepted b → HasRoom cs
room_for cs is_full true clash c b e h = absurd (cc h)
room_for cs is_full false clash c b e h =
    let quota = or_parts (exceeds_quota cs c) is_full e in
    let count = or_parts (not (nat_lt (length cs) MAX_CHANGES)) _ quota.0 in
    ltb-true (length cs) MAX_CHANGES (not-false (nat_lt (length cs) MAX_CHANGES) count.0)

accepted_fits : (cs : List Change) (is_full : Bool) (clash : Option (ℕ × Clash)) (c b : Change) (names : List (List ℕ)) → after_tests cs is_full clash c names ≡ Accepted b → (names ≡ []) × HasRoom cs
accepted_fits cs is_full clash c b [] h = (refl, room_for cs is_full (exceeds_quota cs c || is_full) clash c b refl h)
accepted_fits cs is_full clash c b (name ∷ names) h = absurd (cc h)

left_accepted : (o : Option Tree) (out : Outcome) → leaves o out ≡ true → (b : Change) × (out ≡ Accepted b)
left_accepted o (Accepted b) h = (b, refl)
left_accepted o (Refused e) h = absurd (false≢true h)

removed_by : (cs : List Change) (used : Bool) (c b : Change) → unless (if_holds used CalendarHasEvent ∷ []) (within_quota cs false None c) ≡ Accepted b → HasRoom cs
removed_by cs true c b h = absurd (cc h)
removed_by cs false c b h = (accepted_fits cs false None c b [] h).1

removed_fits : (cs : List Change) (kind : Kind) (q : Option (ℕ × Tree)) (b : Change) → destroyed_outcome cs kind q ≡ Accepted b → HasRoom cs
removed_fits cs kind None b h = absurd (cc h)
removed_fits cs kind (Some q) b h = removed_by cs (is_in_use cs kind q.0) (removal kind q.0) b h

module _ (zones : List ZoneText) (cs : List Change) where
  event_valid : (before : Option Tree) (d : Data) → bad_of_event zones cs before false d ≡ [] → bad_properties_of_event zones d ≡ []
  event_valid before d h =
      let booking = bad_of_booking zones cs d (bad_properties_of_event zones d) in
      let uid = none_named (has_other_uid before d) (codes "uid") _ h in
      let calendars = none_named (misses_calendar cs d) (codes "calendarIds") booking uid.1 in
      let override = none_named (has_long_override zones cs d) (codes "recurrenceOverrides") _ calendars.1 in
      let long = none_named (is_long_booking cs d) (codes "duration") _ override.1 in
      (none_named (is_in_other_zone cs d) (codes "timeZone") (bad_properties_of_event zones d) long.1).1

  calendar_valid : (before : Option Tree) (d : Data) → bad_of_calendar zones cs before false d ≡ [] → bad_properties zones d ≡ []
  calendar_valid before d h = (none_named (has_other_zone before d) (codes "resourceZone") (bad_properties zones d) h).1

  -- what is put is an object, and isn't deep
  abbrev pub IsFlatObject : Option Tree → Type 0
  IsFlatObject o = IsObjectTree o × (depth (object_data o) ≤ 61)

  flat_put : (kind : Kind) (n : ℕ) (t : Tree) → IsFit (data_of t) → has_stored_form kind n (Some t) ≡ true → leaves (Some t) (outcome_again zones cs kind n (Some t)) ≡ true → IsFlatObject (Some t) × HasRoom cs
  flat_put Calendar n (Object ps) fit form h =
      let d : Data = object (members_of ps) in
      let taken = left_accepted (Some (Object ps)) (outcome_again zones cs Calendar n (Some (Object ps))) h in
      let fits = accepted_fits cs (exceeds_resources cs n d) None (put Calendar n (stored (calendar_in d))) taken.0 (bad_of_calendar zones cs (live_object cs Calendar n) false d) taken.1 in
      ((tt, calendar_within zones (members_of ps) fit (calendar_valid (live_object cs Calendar n) d fits.0)), fits.1)
  flat_put Event n (Object ps) fit form h =
      let qs : List Pair = pairs_of (members_of ps) in
      let d : Data = object (members_of qs) in
      let taken = left_accepted (Some (Object ps)) (outcome_again zones cs Event n (Some (Object ps))) h in
      let fits = accepted_fits cs (has_full_resource zones cs n d) (clash_of_event zones cs n d) (put Event n qs) taken.0 (bad_of_event zones cs (live_object cs Event n) false d) taken.1 in
      let valid : bad_properties_of_event zones (object (members_of ps)) ≡ [] = ap (λ ms. bad_properties_of_event zones (object (members_of ms))) (sym (pairs_back ps)) ∙ event_valid (live_object cs Event n) d fits.0 in
      ((tt, event_within zones (members_of ps) fit valid), fits.1)
  flat_put Calendar n Null fit form h = absurd (false≢true form)
  flat_put Calendar n (Truth b) fit form h = absurd (false≢true form)
  flat_put Calendar n (Whole z) fit form h = absurd (false≢true form)
  flat_put Calendar n (Text s) fit form h = absurd (false≢true form)
  flat_put Calendar n (Listed ds) fit form h = absurd (false≢true form)
  flat_put Event n Null fit form h = absurd (false≢true form)
  flat_put Event n (Truth b) fit form h = absurd (false≢true form)
  flat_put Event n (Whole z) fit form h = absurd (false≢true form)
  flat_put Event n (Text s) fit form h = absurd (false≢true form)
  flat_put Event n (Listed ds) fit form h = absurd (false≢true form)

  flat_by : (kind : Kind) (n : ℕ) (o : Option Tree) → IfSome o (λ t. IsFit (data_of t)) → has_stored_form kind n o ≡ true → leaves o (outcome_again zones cs kind n o) ≡ true → IsFlatObject o × HasRoom cs
  flat_by kind n (Some t) fit form h = flat_put kind n t fit form h
  flat_by kind n None fit form h =
      let taken = left_accepted None (outcome_again zones cs kind n None) h in
      ((tt, omega arith), removed_fits cs kind (option_map (λ t. (n, t)) (live_object cs kind n)) taken.0 taken.1)

  pub sound_is_flat : (c : Change) → is_sound zones cs c ≡ true → IfSome c.object (λ t. IsFit (data_of t)) → (has_number zones cs c.kind c.id ≡ true) × IsFlatObject c.object × HasRoom cs
  sound_is_flat c sound fit =
      let parts = sound_parts zones cs c sound in
      let flat = flat_by c.kind c.id c.object fit parts.0.1 parts.1 in
      (parts.0.0, flat.0, flat.1)
