-- Live objects that are sound behind some changes are so behind one more that fits.
use Rattle.std.proofs.Common.{◌≡◌, ◌∙◌, ◌⊎◌, ◌++◌, ◌==◌, ◌||◌, not, cond, ℕ, List, [], ◌∷◌, Bool, true, false, Option, Some, None, append-nil, codes, filter, is_some, length, option_and_then, option_map, if◌then◌else◌, arith, refl, sym, ap, subst}
use Rattle.std.proofs.lemmas.Bool.{and_from, and_parts, false≢true, not-false, or_parts}
use Rattle.std.proofs.lemmas.Bool.Decides.{nat_tests}
use Rattle.std.proofs.lemmas.List.Elements.{filter-append}
use Rattle.std.proofs.lemmas.Slice.Eq.{bytes_eq-Decides}
use Rattle.std.specs.List.{list_all}
use Rattle.std.specs.Option.{option_map_or}
use Rattle.account_rooms.proofs.Changes.{calendar_now, change, event_leaves_calendars, event_leaves_resources, ids_from-push, with_known, with_new}
use Rattle.account_rooms.proofs.Numbers.{any_object, not_in_filter}
use Rattle.cal_model.specs.Calendar.{bad_properties, calendar_in, stored, text_or_null}
use Rattle.cal_model.specs.EventObject.{has_event, has_other_uid, names_missing_calendar}
use Rattle.cal_model.specs.Fits.{IsFit, IsObjectFit}
use Rattle.cal_model.specs.Operations.{after_tests, bad_of_booking, bad_of_calendar, bad_of_event, exceeds_resources, has_other_zone, if_holds, put, unless, zone_given}
use Rattle.cal_model.specs.Quota.{exceeds_quota}
use Rattle.cal_model.specs.Sound.{has_own_id, has_server_values, has_stored_form, is_sound, leaves, outcome_again, same_object}
use Rattle.cal_model.specs.declared.outcome.Outcome.{Outcome}
use Rattle.cal_model.specs.declared.outcome.Outcome.TheVariants.{Accepted, Refused}
use Rattle.cal_model.specs.declared.set_error.SetError.TheVariants.{Clashes, OverQuota}
use Rattle.object_outcomes.proofs.NameLemmas.{none_named}
use Rattle.object_outcomes.proofs.SoundLemmas.{accepted_is, is_object, sound_parts}
use Rattle.object_outcomes.proofs.SoundObjects.{AreSoundObjects, live_is_numbered}
use Rattle.spec_bookings.proofs.Tables.{by_test, number_same, same_number}
use Rattle.spec_bookings.specs.BookedResources.{clash_of_event, has_full_resource}
use Rattle.spec_bookings.specs.BookingRules.{has_long_override, is_in_other_zone, is_in_zone, is_long_booking}
use Rattle.spec_bookings.specs.Resources.{is_resource, resource_zone, resources_at, resources_of, zone_of_resource}
use Rattle.spec_bookings.specs.declared.clash.Clash.{Clash}
use Rattle.spec_events.specs.Events.{calendars_of, names_calendar}
use Rattle.spec_history.specs.History.{ids_at, live_object, names, next_number, object_from, with_id}
use Rattle.spec_history.specs.Pages.{is_in}
use Rattle.spec_history.specs.declared.entry.Change.{Change}
use Rattle.spec_history.specs.declared.entry.Kind.{Kind}
use Rattle.spec_history.specs.declared.entry.Kind.TheVariants.{Calendar, Event}
use Rattle.spec_json.specs.Data.{Data, members_of, object}
use Rattle.spec_json.specs.Parts.{members_in}
use Rattle.spec_json.specs.SameData.{same_data}
use Rattle.spec_json.specs.TreeData.{data_of}
use Rattle.spec_json.specs.declared.tree.Tree.{Tree}
use Rattle.spec_recurrence.specs.Recurrence.{bad_properties_of_event}
use Rattle.spec_site.specs.TimeZones.{ZoneText}
use Rattle.cal_model.specs.SoundObjects.{is_sound_object}

-- ---- Lists of numbers.

-- tests that agree on the numbers that are there
all_agree : (p q : ℕ → Bool) (ns : List ℕ) → ((n : ℕ) → is_in ns n ≡ true → p n ≡ q n) → list_all p ns ≡ list_all q ns
all_agree p q [] h = refl
all_agree p q (n ∷ ns) h =
    let first : p n ≡ q n = h n (rw (number_same n n refl) refl) in
    let rest : list_all p ns ≡ list_all q ns = all_agree p q ns (λ m there. h m (rw there (or_yes (n == m)))) in
    rw (first, rest) refl
  where
    or_yes : (b : Bool) → (b || true) ≡ true
    or_yes true = refl
    or_yes false = refl

-- what is filtered out by one test alone doesn't matter
module _ (p q r : ℕ → Bool) (same : (n : ℕ) → p n ≡ true → q n ≡ r n) where
  both_by : (n : ℕ) (ns : List ℕ) (a b c : Bool) → p n ≡ a → q n ≡ b → r n ≡ c → filter p (filter q ns) ≡ filter p (filter r ns)
      → filter p (cond b (n ∷ filter q ns) (filter q ns)) ≡ filter p (cond c (n ∷ filter r ns) (filter r ns))
  both_by n ns true true true e f g h = rw (e, h) refl
  both_by n ns true false false e f g h = h
  both_by n ns true true false e f g h = absurd (false≢true (sym g ∙ sym (same n e) ∙ f))
  both_by n ns true false true e f g h = absurd (false≢true (sym f ∙ same n e ∙ g))
  both_by n ns false true true e f g h = rw (e, h) refl
  both_by n ns false false false e f g h = h
  both_by n ns false true false e f g h = rw e h
  both_by n ns false false true e f g h = rw e h

  both_filters : (ns : List ℕ) → filter p (filter q ns) ≡ filter p (filter r ns)
  both_filters [] = refl
  both_filters (n ∷ ns) = both_by n ns (p n) (q n) (r n) refl refl refl (both_filters ns)

not_passed : (p r : ℕ → Bool) (id : ℕ) → p id ≡ false → filter p (filter r (id ∷ [])) ≡ []
not_passed p r id h = by_test (λ ns. filter p ns ≡ []) (r id) (id ∷ []) [] (λ e. rw h refl) (λ e. refl)

-- a number that a test doesn't pass adds nothing
with_unpassed : (p r : ℕ → Bool) (ids : List ℕ) (id : ℕ) → p id ≡ false → filter p (filter r (ids ++ id ∷ [])) ≡ filter p (filter r ids)
with_unpassed p r ids id h =
    ap (filter p) (filter-append r ids (id ∷ [])) ∙ filter-append p (filter r ids) (filter r (id ∷ []))
    ∙ ap (λ ns. filter p (filter r ids) ++ ns) (not_passed p r id h) ∙ append-nil (filter p (filter r ids))

-- what is among those that pass passes
passes_there : (p : ℕ → Bool) (ns : List ℕ) (n : ℕ) → is_in (filter p ns) n ≡ true → p n ≡ true
passes_there p ns n there = by_cases (p n) refl
  where
    by_cases : (b : Bool) → p n ≡ b → b ≡ true
    by_cases true e = refl
    by_cases false e = absurd (false≢true (sym (not_in_filter p n ns e) ∙ there))

-- ---- Calendars of an event.

-- the calendars that an event is in are live here as there, and of the same resources
abbrev SameCalendars : List Change → List Change → Data → Type 0
SameCalendars cs ds d = (n : ℕ) → names_calendar n d ≡ true → (is_some (live_object ds Calendar n) ≡ is_some (live_object cs Calendar n)) × (resource_zone ds n ≡ resource_zone cs n)

module _ (zones : List ZoneText) (cs ds : List Change) (d : Data) (same : SameCalendars cs ds d) (resources : resources_of ds d ≡ resources_of cs d) where
  same_missing : names_missing_calendar ds d ≡ names_missing_calendar cs d
  same_missing = ap not (all_agree (λ n. is_some (live_object ds Calendar n)) (λ n. is_some (live_object cs Calendar n)) (calendars_of d) (λ n there. (same n there).0))

  same_zones : is_in_other_zone ds d ≡ is_in_other_zone cs d
  same_zones = ap not (
      ap (list_all (λ n. option_map_or (is_in_zone d) (resource_zone ds n) true)) resources
      ∙ all_agree (λ n. option_map_or (is_in_zone d) (resource_zone ds n) true) (λ n. option_map_or (is_in_zone d) (resource_zone cs n) true) (resources_of cs d)
      (λ n there. ap (λ o. option_map_or (is_in_zone d) o true) (same n (passes_there (λ m. names_calendar m d) (resources_at cs) n there)).1))

  same_long : is_long_booking ds d ≡ is_long_booking cs d
  same_long = rw resources refl

  same_override : has_long_override zones ds d ≡ has_long_override zones cs d
  same_override = rw resources refl

  -- so what they make bad of it is the same
  same_bad : bad_of_event zones ds None false d ≡ bad_of_event zones cs None false d
  same_bad = rw (same_missing, same_zones, same_long, same_override) refl

-- ---- A change of an event.

event_same : (zones : List ZoneText) (cs : List Change) (id : ℕ) (o : Option Tree) (d : Data) → bad_of_event zones (cs ++ change Event id o ∷ []) None false d ≡ bad_of_event zones cs None false d
event_same zones cs id o d =
    let ds = cs ++ change Event id o ∷ [] in
    same_bad zones cs ds d
    (λ n named. (ap is_some (event_leaves_calendars cs id o n), ap (option_and_then zone_of_resource) (event_leaves_calendars cs id o n)))
    (both_filters (λ n. names_calendar n d) (is_resource ds) (is_resource cs) (λ n named. event_leaves_resources cs id o n) (ids_at ds Calendar)
    ∙ ap (λ ns. filter (λ n. names_calendar n d) (filter (is_resource cs) ns)) (ids_from-push cs [] (change Event id o) Calendar))

-- ---- What is put by a change that fits.

accepted_names : (cs : List Change) (is_full : Bool) (clash : Option (ℕ × Clash)) (c b : Change) (names : List (List ℕ)) → after_tests cs is_full clash c names ≡ Accepted b → names ≡ []
accepted_names cs is_full clash c b [] h = refl
accepted_names cs is_full clash c b (name ∷ names) h = absurd (cc h)

-- where the account has room for it
accepted_room : (cs : List Change) (is_full : Bool) (clash : Option (ℕ × Clash)) (c b : Change) (names : List (List ℕ)) → after_tests cs is_full clash c names ≡ Accepted b → is_full ≡ false
accepted_room cs is_full clash c b (name ∷ names) h = absurd (cc h)
accepted_room cs is_full clash c b [] h = (or_parts (exceeds_quota cs c) is_full (by_test (exceeds_quota cs c || is_full) h)).1
  where
    by_test : (over : Bool) → unless (None ∷ if_holds over OverQuota ∷ option_map (λ q. Clashes q.0 q.1) clash ∷ []) (Accepted c) ≡ Accepted b → over ≡ false
    by_test false e = refl
    by_test true e = absurd (cc e)

taken : (o : Option Tree) (out : Outcome) → leaves o out ≡ true → (b : Change) × (out ≡ Accepted b) × (same_object b.object o ≡ true)
taken o (Accepted b) h = (b, refl, h)
taken o (Refused e) h = absurd (false≢true h)

none_bad : (names : List (List ℕ)) → names ≡ [] → (length names == 0) ≡ true
none_bad names h = rw h refl

module _ (zones : List ZoneText) (cs : List Change) (n : ℕ) where
  -- an event that would be stored again stands
  event_put : (t : Tree) → has_server_values Event n (data_of t) ≡ true → leaves (Some t) (outcome_again zones cs Event n (Some t)) ≡ true → bad_of_event zones cs None false (data_of t) ≡ []
  event_put t form h =
      let d : Data = object (members_of (members_in (data_of t))) in
      let back : d ≡ data_of t = ap data_of (is_object n t form) in
      let out = taken (Some t) (outcome_again zones cs Event n (Some t)) h in
      let none : bad_of_event zones cs (live_object cs Event n) false d ≡ [] =
      accepted_names cs (has_full_resource zones cs n d) (clash_of_event zones cs n d) (put Event n (members_in (data_of t))) out.0 (bad_of_event zones cs (live_object cs Event n) false d) out.1 in
      subst (λ (e : Data). bad_of_event zones cs None false e ≡ []) back (none_named (has_other_uid (live_object cs Event n) d) (codes "uid") _ none).1

  -- and so does a calendar, which stays that of its resource
  pub record CalendarPut (t : Tree) : Type 0 where
    pub valid : bad_properties zones (data_of t) ≡ []
    pub zone : has_other_zone (live_object cs Calendar n) (data_of t) ≡ false
    pub few : exceeds_resources cs n (data_of t) ≡ false
    pub form : same_data (object (members_of (stored (calendar_in (data_of t))))) (data_of t) ≡ true

  pub calendar_put : (t : Tree) → leaves (Some t) (outcome_again zones cs Calendar n (Some t)) ≡ true → CalendarPut t
  calendar_put t h =
      let d = data_of t in
      let kept = put Calendar n (stored (calendar_in d)) in
      let bad = bad_of_calendar zones cs (live_object cs Calendar n) false d in
      let out = taken (Some t) (outcome_again zones cs Calendar n (Some t)) h in
      let parts = none_named (has_other_zone (live_object cs Calendar n) d) (codes "resourceZone") (bad_properties zones d) (accepted_names cs (exceeds_resources cs n d) None kept out.0 bad out.1) in
      let is : kept ≡ out.0 = accepted_is cs (exceeds_resources cs n d) None kept out.0 bad out.1 in
      record {
        valid = parts.1;
        zone = parts.0;
        few = accepted_room cs (exceeds_resources cs n d) None kept out.0 bad out.1;
        form = subst (λ (b : Change). same_object b.object (Some t) ≡ true) (sym is) out.2;
      }

-- ---- What is sound.

-- of the object that a change leaves of its number, and of any other as it was
leaves_one : (P : Tree → Type 0) (same : Bool) (o before : Option Tree) (t : Tree) → (if same then o else before) ≡ Some t → (same ≡ true → (u : Tree) → o ≡ Some u → P u) → (same ≡ false → before ≡ Some t → P t) → P t
leaves_one P true o before t h put other = put refl t h
leaves_one P false o before t h put other = other refl h

no_names : (names : List (List ℕ)) → (length names == 0) ≡ true → names ≡ []
no_names [] h = refl
no_names (n ∷ ns) h = absurd (grind (arith, nat_tests))

module _ (zones : List ZoneText) (cs : List Change) (stands : AreSoundObjects zones cs) where
  -- a change of an event
  event_more : (id : ℕ) (o : Option Tree) → is_sound zones cs (change Event id o) ≡ true → AreSoundObjects zones (cs ++ change Event id o ∷ [])
  event_more id o sound Calendar n t live = stands Calendar n t (sym (event_leaves_calendars cs id o n) ∙ live)
  event_more id o sound Event n t live =
      leaves_one (λ u. is_sound_object zones (cs ++ change Event id o ∷ []) Event n (data_of u) ≡ true) (n == id) o (live_object cs Event n) t (sym (event_now cs id o n) ∙ live)
      (λ same u is.
      let parts = sound_parts zones cs (change Event id o) sound in
      let form : has_server_values Event id (data_of u) ≡ true = subst (λ (p : Option Tree). has_stored_form Event id p ≡ true) is parts.0.1 in
      let bad : bad_of_event zones cs None false (data_of u) ≡ [] = event_put zones cs id u form (subst (λ (p : Option Tree). leaves p (outcome_again zones cs Event id p) ≡ true) is parts.1) in
      and_from _ _ (subst (λ (m : ℕ). has_server_values Event m (data_of u) ≡ true) (sym (same_number n id same)) form) (none_bad _ (event_same zones cs id o (data_of u) ∙ bad)))
      (λ other before.
      let was = and_parts (has_server_values Event n (data_of t)) (length (bad_of_event zones cs None false (data_of t)) == 0) (stands Event n t before) in
      and_from _ _ was.0 (ap (λ names. length names == 0) (event_same zones cs id o (data_of t)) ∙ was.1))
    where
      event_now : (cs : List Change) (id : ℕ) (o : Option Tree) (n : ℕ) → live_object (cs ++ change Event id o ∷ []) Event n ≡ (if n == id then o else live_object cs Event n)
      event_now cs id o n = later cs None
        where
          later : (cs : List Change) (before : Option Tree) → object_from before (cs ++ change Event id o ∷ []) Event n ≡ (if n == id then o else object_from before cs Event n)
          later [] before = refl
          later (c ∷ cs) before = later cs (if names Event n c then c.object else before)

-- ---- A change of a calendar.

text_same : (a b : Option (List ℕ)) → same_data (text_or_null a) (text_or_null b) ≡ true → a ≡ b
text_same None None h = refl
text_same None (Some t) h = absurd (false≢true h)
text_same (Some s) None h = absurd (false≢true h)
text_same (Some s) (Some t) h = ap Some ((bytes_eq-Decides s t).0 h)

-- a calendar that stays that of its resource
zone_kept : (o : Option Tree) (u : Tree) → is_some o ≡ true → has_other_zone o (data_of u) ≡ false → zone_of_resource u ≡ option_and_then zone_of_resource o
zone_kept None u live h = absurd (false≢true live)
zone_kept (Some v) u live h = text_same (zone_given (data_of u)) (zone_of_resource v) (not-false _ h)

-- all of these numbers pass
all_of : (p : ℕ → Bool) (ns : List ℕ) (n : ℕ) → list_all p ns ≡ true → is_in ns n ≡ true → p n ≡ true
all_of p [] n h there = absurd (false≢true there)
all_of p (m ∷ ns) n h there = let both = and_parts (p m) (list_all p ns) h in by_cases (m == n) refl both.0 there (λ r. all_of p ns n both.1 r)
  where
    by_cases : (same : Bool) → (m == n) ≡ same → p m ≡ true → (same || is_in ns n) ≡ true → (is_in ns n ≡ true → p n ≡ true) → p n ≡ true
    by_cases true e first r rest = ap p (sym (same_number m n e)) ∙ first
    by_cases false e first r rest = rest r

-- no property of the event is bad, so its calendars are live
calendars_live : (zones : List ZoneText) (cs : List Change) (d : Data) → bad_of_event zones cs None false d ≡ [] → (n : ℕ) → names_calendar n d ≡ true → is_some (live_object cs Calendar n) ≡ true
calendars_live zones cs d none n named =
    let missing = none_named (names_missing_calendar cs d) (codes "calendarIds") (bad_of_booking zones cs d (bad_properties_of_event zones d)) none in
    all_of (λ m. is_some (live_object cs Calendar m)) (calendars_of d) n (not-false _ missing.0) named

module _ (zones : List ZoneText) (cs : List Change) (id : ℕ) (o : Option Tree) where
  abbrev after : List Change
  after = cs ++ change Calendar id o ∷ []

  -- what a calendar that fits does to the calendars of an event that stands
  module _ (new : is_in (ids_at cs Calendar) (next_number cs Calendar) ≡ false) (number : (id ≡ next_number cs Calendar) ⊎ (is_some (live_object cs Calendar id) ≡ true))
      (unused : o ≡ None → has_event cs id ≡ false) (sound : is_sound zones cs (change Calendar id o) ≡ true) where
    -- of the calendar that it names
    named_same : (e : ℕ) (t : Tree) → live_object cs Event e ≡ Some t → names_calendar id (data_of t) ≡ true → is_some (live_object cs Calendar id) ≡ true
        → (p : Option Tree) → o ≡ p → (is_some p ≡ is_some (live_object cs Calendar id)) × (option_and_then zone_of_resource p ≡ resource_zone cs id)
    named_same e t live named there None is =
        let used = any_object (live_object cs Event) (λ u. names_calendar id (data_of u)) (ids_at cs Event) e t (live_is_numbered cs Event e (ap is_some live)) live named in
        absurd (false≢true (sym (unused is) ∙ used))
    named_same e t live named there (Some u) is =
        let parts = sound_parts zones cs (change Calendar id o) sound in
        let put = calendar_put zones cs id u (subst (λ (q : Option Tree). leaves q (outcome_again zones cs Calendar id q) ≡ true) is parts.1) in
        (sym there, zone_kept (live_object cs Calendar id) u there put.zone)

    same_calendars : (e : ℕ) (t : Tree) → live_object cs Event e ≡ Some t → bad_of_event zones cs None false (data_of t) ≡ [] → SameCalendars cs after (data_of t)
    same_calendars e t live none n named =
        let there = calendars_live zones cs (data_of t) none n named in
        subst (λ (p : Option Tree). (is_some p ≡ is_some (live_object cs Calendar n)) × (option_and_then zone_of_resource p ≡ resource_zone cs n)) (sym (calendar_now cs id o n))
        (by_test (λ (p : Option Tree). (is_some p ≡ is_some (live_object cs Calendar n)) × (option_and_then zone_of_resource p ≡ resource_zone cs n)) (n == id) o (live_object cs Calendar n)
        (λ same.
        let is = same_number n id same in
        subst (λ (m : ℕ). (is_some o ≡ is_some (live_object cs Calendar m)) × (option_and_then zone_of_resource o ≡ resource_zone cs m)) (sym is)
        (named_same e t live (subst (λ (m : ℕ). names_calendar m (data_of t) ≡ true) is named) (subst (λ (m : ℕ). is_some (live_object cs Calendar m) ≡ true) is there) o refl))
        (λ other. (refl, refl)))

    same_resources : (e : ℕ) (t : Tree) → live_object cs Event e ≡ Some t → bad_of_event zones cs None false (data_of t) ≡ [] → resources_of after (data_of t) ≡ resources_of cs (data_of t)
    same_resources e t live none =
        let d = data_of t in
        let p : ℕ → Bool = λ n. names_calendar n d in
        let same = same_calendars e t live none in
        both_filters p (is_resource after) (is_resource cs) (λ n named. ap is_some (same n named).1) (ids_at after Calendar)
        ∙ ap (λ ns. filter p (filter (is_resource cs) ns)) (ids_from-push cs [] (change Calendar id o) Calendar)
        ∙ by_cases (is_in (ids_at cs Calendar) id) refl
      where
        by_cases : (known : Bool) → is_in (ids_at cs Calendar) id ≡ known
            → filter (λ n. names_calendar n (data_of t)) (filter (is_resource cs) (with_id (ids_at cs Calendar) id)) ≡ resources_of cs (data_of t)
        by_cases true e = ap (λ ns. filter (λ n. names_calendar n (data_of t)) (filter (is_resource cs) ns)) (with_known (ids_at cs Calendar) id e)
        by_cases false e =
            ap (λ ns. filter (λ n. names_calendar n (data_of t)) (filter (is_resource cs) ns)) (with_new (ids_at cs Calendar) id e)
            ∙ with_unpassed (λ n. names_calendar n (data_of t)) (is_resource cs) (ids_at cs Calendar) id (unnamed (names_calendar id (data_of t)) refl)
          where
            unnamed : (b : Bool) → names_calendar id (data_of t) ≡ b → b ≡ false
            unnamed false is = refl
            unnamed true is = absurd (false≢true (sym e ∙ live_is_numbered cs Calendar id (calendars_live zones cs (data_of t) none id is)))

    calendar_more : AreSoundObjects zones cs → AreSoundObjects zones after
    calendar_more stands Event n t live =
        let before : live_object cs Event n ≡ Some t = sym (event_stays cs None) ∙ live in
        let was = and_parts (has_server_values Event n (data_of t)) (length (bad_of_event zones cs None false (data_of t)) == 0) (stands Event n t before) in
        let none = no_names (bad_of_event zones cs None false (data_of t)) was.1 in
        and_from _ _ was.0 (none_bad _ (same_bad zones cs after (data_of t) (same_calendars n t before none) (same_resources n t before none) ∙ none))
      where
        event_stays : (cs : List Change) (before : Option Tree) → object_from before (cs ++ change Calendar id o ∷ []) Event n ≡ object_from before cs Event n
        event_stays [] before = refl
        event_stays (c ∷ cs) before = event_stays cs (if names Event n c then c.object else before)
    calendar_more stands Calendar n t live =
        leaves_one (λ u. is_sound_object zones after Calendar n (data_of u) ≡ true) (n == id) o (live_object cs Calendar n) t (sym (calendar_now cs id o n) ∙ live)
        (λ same u is.
        let parts = sound_parts zones cs (change Calendar id o) sound in
        let form : has_own_id Calendar id (data_of u) ≡ true = subst (λ (p : Option Tree). has_stored_form Calendar id p ≡ true) is parts.0.1 in
        let put = calendar_put zones cs id u (subst (λ (q : Option Tree). leaves q (outcome_again zones cs Calendar id q) ≡ true) is parts.1) in
        subst (λ (m : ℕ). is_sound_object zones after Calendar m (data_of u) ≡ true) (sym (same_number n id same)) (and_from _ _ (and_from _ _ form (none_bad (bad_properties zones (data_of u)) put.valid)) put.form))
        (λ other before. stands Calendar n t before)

-- ---- Any change that fits.

more_by : (zones : List ZoneText) (cs : List Change) (kind : Kind) (id : ℕ) (o : Option Tree) → AreSoundObjects zones cs → is_in (ids_at cs Calendar) (next_number cs Calendar) ≡ false
    → (id ≡ next_number cs kind) ⊎ (is_some (live_object cs kind id) ≡ true) → IsObjectFit zones cs kind id o → is_sound zones cs (change kind id o) ≡ true → AreSoundObjects zones (cs ++ change kind id o ∷ [])
more_by zones cs Event id o stands new number fit sound = event_more zones cs stands id o sound
more_by zones cs Calendar id o stands new number fit sound =
    calendar_more zones cs id o new number (λ is. subst (λ (p : Option Tree). IsObjectFit zones cs Calendar id p) is fit) sound stands

pub sound_objects_more : (zones : List ZoneText) (cs : List Change) (c : Change) → AreSoundObjects zones cs → is_in (ids_at cs Calendar) (next_number cs Calendar) ≡ false → IsFit zones cs c → AreSoundObjects zones (cs ++ c ∷ [])
sound_objects_more zones cs c stands new fit = more_by zones cs c.kind c.id c.object stands new fit.number fit.object fit.sound
