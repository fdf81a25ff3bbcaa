-- The rooms of an account after a change that fits.
use Rattle.std.proofs.Common.{◌≡◌, ◌≤◌, ◌⊎◌, inl, inr, ◌==◌, ◌||◌, Bool, true, false, not, cond, ℕ, List, [], ◌∷◌, ◌++◌, Option, None, Some, filter, is_some, length, map, option_and_then, if◌then◌else◌, arith, refl, sym, ap, subst, ◌∙◌, append-nil}
use Rattle.std.proofs.lemmas.Bool.{and_parts, false≢true, not-false}
use Rattle.std.proofs.lemmas.List.Elements.{filter-append, filter_agree}
use Rattle.std.specs.List.{list_all}
use Rattle.std.proofs.lemmas.Option.{none-some}
use Rattle.std.proofs.lemmas.List.{map_push}
use Rattle.account_rooms.proofs.Changes.{calendar_bookings, calendar_now, change, event_bookings, event_leaves_calendars, event_leaves_resources, ids_from-push, is_of_resource, resource_now, with_known, with_new}
use Rattle.account_rooms.proofs.Counts.{length-with, length-without}
use Rattle.account_rooms.proofs.Numbers.{any_object, filter_gone, filter_without, not_in_filter}
use Rattle.account_rooms.specs.RoomChanges.{MayChange, booked_again, booked_with, rooms_after, rooms_by, with_room, without_room}
use Rattle.account_rooms.specs.Rooms.{AreFree, AreRooms, BookedRoom, bookings_in, has_room, room_at, rooms_at}
use Rattle.cal_model.specs.EventObject.{has_event, names_missing_calendar}
use Rattle.cal_model.specs.Fits.{IsFit, IsObjectFit}
use Rattle.spec_events.specs.Events.{calendars_of, names_calendar}
use Rattle.spec_history.specs.History.{ids_at, live_object, next_number, with_id}
use Rattle.spec_history.specs.Pages.{is_in}
use Rattle.spec_history.specs.declared.entry.Change.{Change}
use Rattle.spec_history.specs.declared.entry.Kind.{Kind}
use Rattle.spec_history.specs.declared.entry.Kind.TheVariants.{Calendar, Event}
use Rattle.spec_json.specs.TreeData.{data_of}
use Rattle.spec_json.specs.declared.tree.Tree.{Tree}
use Rattle.spec_recurrence.specs.SeriesOf.{series_in}
use Rattle.spec_bookings.specs.SeriesPut.{series_put}
use Rattle.spec_series.specs.declared.series.Series.{Series}
use Rattle.spec_bookings.proofs.Numbered.{in_filter, numbered_if_live, resource_is_live}
use Rattle.spec_bookings.specs.BookedResources.{booked_in, bookings_of}
use Rattle.spec_bookings.specs.Resources.{is_resource, resources_at, zone_of_resource}
use Rattle.spec_bookings.specs.declared.limits.TheConstants.{MAX_BOOKINGS}
use Rattle.spec_bookings.specs.Bookings.{without_booking}
use Rattle.spec_bookings.specs.declared.booking.Booking.{Booking}
use Rattle.spec_site.specs.TimeZones.{ZoneText}
use Rattle.spec_bookings.proofs.Doubles.{double-with, double-without}
use Rattle.spec_bookings.proofs.Listed.{live_booked}
use Rattle.spec_bookings.proofs.Tables.{by_test, number_same, same_number}
use Rattle.spec_bookings.specs.Free.{IsFree}
use Rattle.spec_bookings.specs.AfterChange.{with_booked}
use Rattle.spec_bookings.specs.HistoryBookings.{booked_by}
use Rattle.spec_bookings.specs.Rising.{series_booked}

-- Rooms.

has_room_at : (zones : List ZoneText) (cs : List Change) (n : ℕ) (ns : List ℕ) → has_room n (map (room_at zones cs) ns) ≡ is_in ns n
has_room_at zones cs n [] = refl
has_room_at zones cs n (m ∷ ns) = ap (λ t. (m == n) || t) (has_room_at zones cs n ns)

same_rooms : (zones : List ZoneText) (cs ds : List Change) (ns : List ℕ) → ((n : ℕ) → bookings_of zones ds n ≡ bookings_of zones cs n) → map (room_at zones cs) ns ≡ map (room_at zones ds) ns
same_rooms zones cs ds [] h = refl
same_rooms zones cs ds (n ∷ ns) h = rw (h n, same_rooms zones cs ds ns h) refl

-- the series of what is put of an event
abbrev put_series : List ZoneText → Option Tree → Option Series
put_series zones o = option_and_then (λ t. series_in zones (data_of t)) o

same_books : (zones : List ZoneText) (n : ℕ) (o : Option Tree) → booked_by (booked_with (put_series zones o) n) o ≡ booked_by (booked_in zones n) o
same_books zones n None = refl
same_books zones n (Some t) = refl

rooms_booked : (zones : List ZoneText) (cs : List Change) (id : ℕ) (o : Option Tree) (ns : List ℕ)
    → map (booked_again id o (put_series zones o)) (map (room_at zones cs) ns) ≡ map (room_at zones (cs ++ change Event id o ∷ [])) ns
rooms_booked zones cs id o [] = refl
rooms_booked zones cs id o (n ∷ ns) = rw (same_books zones n o, event_bookings zones cs id o n, rooms_booked zones cs id o ns) refl

rooms_without : (zones : List ZoneText) (cs : List Change) (id : ℕ) (ns : List ℕ) → without_room id (map (room_at zones cs) ns) ≡ map (room_at zones cs) (filter (λ n. not (n == id)) ns)
rooms_without zones cs id [] = refl
rooms_without zones cs id (n ∷ ns) = by_cases (n == id) (rooms_without zones cs id ns)
  where
    by_cases : (same : Bool) → without_room id (map (room_at zones cs) ns) ≡ map (room_at zones cs) (filter (λ n. not (n == id)) ns)
        → cond (not same) (room_at zones cs n ∷ without_room id (map (room_at zones cs) ns)) (without_room id (map (room_at zones cs) ns))
        ≡ map (room_at zones cs) (cond (not same) (n ∷ filter (λ n. not (n == id)) ns) (filter (λ n. not (n == id)) ns))
    by_cases true h = h
    by_cases false h = ap (λ rs. room_at zones cs n ∷ rs) h

live_is_numbered : (cs : List Change) (kind : Kind) (n : ℕ) → is_some (live_object cs kind n) ≡ true → is_in (ids_at cs kind) n ≡ true
live_is_numbered cs kind n h = numbered_if_live cs kind n None [] (λ e. absurd (false≢true e)) h

-- a resource has a room, and no other number has one
pub room_of_resource : (zones : List ZoneText) (cs : List Change) (n : ℕ) → is_resource cs n ≡ true → has_room n (rooms_at zones cs) ≡ true
room_of_resource zones cs n h =
    has_room_at zones cs n (resources_at cs)
    ∙ in_filter (is_resource cs) (ids_at cs Calendar) n h (live_is_numbered cs Calendar n (resource_is_live cs n h))

no_room : (zones : List ZoneText) (cs : List Change) (n : ℕ) → is_resource cs n ≡ false → has_room n (rooms_at zones cs) ≡ false
no_room zones cs n h = has_room_at zones cs n (resources_at cs) ∙ not_in_filter (is_resource cs) n (ids_at cs Calendar) h

pub resource_of_room : (zones : List ZoneText) (cs : List Change) (n : ℕ) → has_room n (rooms_at zones cs) ≡ true → is_resource cs n ≡ true
resource_of_room zones cs n h = by_cases (is_resource cs n) refl
  where
    by_cases : (t : Bool) → is_resource cs n ≡ t → t ≡ true
    by_cases true e = refl
    by_cases false e = absurd (false≢true (sym (no_room zones cs n e) ∙ h))

-- Events.

module _ (zones : List ZoneText) (cs : List Change) (id : ℕ) (o : Option Tree) where
  abbrev event_after : List Change
  event_after = cs ++ change Event id o ∷ []

  -- the bookings of a calendar behind the event's change
  abbrev bookings_after : ℕ → List Booking
  bookings_after n = with_booked id (booked_by (booked_in zones n) o) (without_booking id (bookings_of zones cs n))

event_rooms : (zones : List ZoneText) (cs : List Change) (id : ℕ) (o : Option Tree) → map (booked_again id o (put_series zones o)) (rooms_at zones cs) ≡ rooms_at zones (event_after zones cs id o)
event_rooms zones cs id o =
    rooms_booked zones cs id o (resources_at cs)
    ∙ ap (map (room_at zones (event_after zones cs id o))) (sym (filter_agree (is_resource (event_after zones cs id o)) (is_resource cs) (event_leaves_resources cs id o) (ids_at cs Calendar))
    ∙ ap (filter (is_resource (event_after zones cs id o))) (sym (ids_from-push cs [] (change Event id o) Calendar)))

booked_by_cases : (P : List Booking → Type 0) (zones : List ZoneText) (n id : ℕ) (t : Tree) (bs : List Booking)
    → (names_calendar n (data_of t) ≡ true → P (with_booked id (series_in zones (data_of t)) bs)) → P bs → P (with_booked id (booked_by (booked_in zones n) (Some t)) bs)
booked_by_cases P zones n id t bs named other = by_test (λ o. P (with_booked id o bs)) (names_calendar n (data_of t)) (series_in zones (data_of t)) None named (λ e. other)

event_free : (zones : List ZoneText) (cs : List Change) (id : ℕ) (o : Option Tree) → AreFree zones cs → IsObjectFit zones cs Event id o → (n : ℕ) → is_resource cs n ≡ true → IsFree (bookings_after zones cs id o n)
event_free zones cs id None free fit n r = λ x. double-without id (bookings_of zones cs n) x (free n r x)
event_free zones cs id (Some t) free fit n r =
    booked_by_cases IsFree zones n id t (without_booking id (bookings_of zones cs n))
    (λ named.
    let takes = fit.bookings n named r in
    rw takes.valid (λ x. double-with id takes.series (without_booking id (bookings_of zones cs n)) x (double-without id (bookings_of zones cs n) x (free n r x)) (takes.clear x)))
    (λ x. double-without id (bookings_of zones cs n) x (free n r x))

event_few : (zones : List ZoneText) (cs : List Change) (id : ℕ) (o : Option Tree) → IsObjectFit zones cs Event id o → (n : ℕ) → is_resource cs n ≡ true → length (bookings_of zones cs n) ≤ MAX_BOOKINGS
    → length (bookings_after zones cs id o n) ≤ MAX_BOOKINGS
event_few zones cs id None fit n r few = omega (arith, length-without id (bookings_of zones cs n), few)
event_few zones cs id (Some t) fit n r few =
    booked_by_cases (λ bs. length bs ≤ MAX_BOOKINGS) zones n id t (without_booking id (bookings_of zones cs n))
    (λ named.
    let takes = fit.bookings n named r in
    rw takes.valid (omega (arith, length-with id takes.series (without_booking id (bookings_of zones cs n)), takes.room)))
    (omega (arith, length-without id (bookings_of zones cs n), few))

all_of : (p : ℕ → Bool) (ns : List ℕ) (n : ℕ) → list_all p ns ≡ true → is_in ns n ≡ true → p n ≡ true
all_of p [] n h g = absurd (false≢true g)
all_of p (m ∷ ns) n h g =
    let both = and_parts (p m) (list_all p ns) h in
    by_cases (m == n) refl g both.0 (λ r. all_of p ns n both.1 r)
  where
    by_cases : (same : Bool) → (m == n) ≡ same → (same || is_in ns n) ≡ true → p m ≡ true → (is_in ns n ≡ true → p n ≡ true) → p n ≡ true
    by_cases true e r first rest = ap p (sym (same_number m n e)) ∙ first
    by_cases false e r first rest = rest r

-- a calendar that an event is in is live
named_is_live : (cs : List Change) (t : Tree) (n : ℕ) → names_missing_calendar cs (data_of t) ≡ false → names_calendar n (data_of t) ≡ true → live_object cs Calendar n ≡ None → ⊥
named_is_live cs t n h named gone =
    let live : is_some (live_object cs Calendar n) ≡ true =
    all_of (λ m. is_some (live_object cs Calendar m)) (calendars_of (data_of t)) n (not-false (list_all (λ m. is_some (live_object cs Calendar m)) (calendars_of (data_of t))) h) named in
    false≢true (sym (ap is_some gone) ∙ live)

event_none : (zones : List ZoneText) (cs : List Change) (id : ℕ) (o : Option Tree) → IsObjectFit zones cs Event id o → (n : ℕ) → live_object cs Calendar n ≡ None → bookings_of zones cs n ≡ []
    → bookings_after zones cs id o n ≡ []
event_none zones cs id None fit n gone none = rw none refl
event_none zones cs id (Some t) fit n gone none =
    rw none
    (booked_by_cases (λ bs. bs ≡ []) zones n id t [] (λ named. absurd (named_is_live cs t n fit.calendars named gone)) refl)

pub event_follows : (zones : List ZoneText) (cs : List Change) (id : ℕ) (o : Option Tree) (rs : List BookedRoom) → AreRooms zones cs rs → IsObjectFit zones cs Event id o
    → AreRooms zones (event_after zones cs id o) (map (booked_again id o (put_series zones o)) rs)
event_follows zones cs id o rs h fit = record {
  rooms = ap (map (booked_again id o (put_series zones o))) h.rooms ∙ event_rooms zones cs id o;
  free = λ n r. subst IsFree (sym (event_bookings zones cs id o n)) (event_free zones cs id o h.free fit n (sym (event_leaves_resources cs id o n) ∙ r));
  few = λ n r.
      let was : is_resource cs n ≡ true = sym (event_leaves_resources cs id o n) ∙ r in
      subst (λ bs. length bs ≤ MAX_BOOKINGS) (sym (event_bookings zones cs id o n)) (event_few zones cs id o fit n was (h.few n was));
  none = λ n gone.
      let was : live_object cs Calendar n ≡ None = sym (event_leaves_calendars cs id o n) ∙ gone in
      event_bookings zones cs id o n ∙ event_none zones cs id o fit n was (h.none n was);
}

-- Calendars.

-- an event that books in a calendar is in it
not_booked : (zones : List ZoneText) (cs : List Change) (n : ℕ) → has_event cs n ≡ false → (m : ℕ) → series_booked m (bookings_of zones cs n) ≡ None
not_booked zones cs n none m = live_booked (booked_in zones n) cs m ∙ by_cases (live_object cs Event m) refl
  where
    listed : (t : Tree) → live_object cs Event m ≡ Some t → names_calendar n (data_of t) ≡ true → has_event cs n ≡ true
    listed t e named = any_object (live_object cs Event) (λ t. names_calendar n (data_of t)) (ids_at cs Event) m t (live_is_numbered cs Event m (ap is_some e)) e named

    by_cases : (o : Option Tree) → live_object cs Event m ≡ o → booked_by (booked_in zones n) o ≡ None
    by_cases None e = refl
    by_cases (Some t) e =
        by_test (λ s. s ≡ None) (names_calendar n (data_of t)) (series_in zones (data_of t)) None
        (λ named. absurd (false≢true (sym none ∙ listed t e named)))
        (λ other. refl)

nothing_booked : (bs : List Booking) → ((m : ℕ) → series_booked m bs ≡ None) → bs ≡ []
nothing_booked [] h = refl
nothing_booked (b ∷ bs) h = absurd (none-some b.series (sym (h b.number) ∙ ap (λ t. if t then Some b.series else series_booked b.number bs) (number_same b.number b.number refl)))

module _ (cs : List Change) (id : ℕ) (o : Option Tree) where
  abbrev calendar_after : List Change
  calendar_after = cs ++ change Calendar id o ∷ []

  -- the test of a resource behind the calendar's change
  abbrev is_resource_after : ℕ → Bool
  is_resource_after n = if n == id then is_of_resource o else is_resource cs n

resources_after : (cs : List Change) (id : ℕ) (o : Option Tree) → resources_at (calendar_after cs id o) ≡ filter (is_resource_after cs id o) (with_id (ids_at cs Calendar) id)
resources_after cs id o =
    filter_agree (is_resource (calendar_after cs id o)) (is_resource_after cs id o) (resource_now cs id o) (ids_at (calendar_after cs id o) Calendar)
    ∙ ap (filter (is_resource_after cs id o)) (ids_from-push cs [] (change Calendar id o) Calendar)

calendar_rooms : (zones : List ZoneText) (cs : List Change) (id : ℕ) (o : Option Tree) → rooms_at zones (calendar_after cs id o) ≡ map (room_at zones cs) (resources_at (calendar_after cs id o))
calendar_rooms zones cs id o = sym (same_rooms zones cs (calendar_after cs id o) (resources_at (calendar_after cs id o)) (calendar_bookings zones cs id o))

removed_resources : (cs : List Change) (id : ℕ) → resources_at (calendar_after cs id None) ≡ filter (λ n. not (n == id)) (resources_at cs)
removed_resources cs id = resources_after cs id None ∙ by_cases (is_in (ids_at cs Calendar) id) refl
  where
    unnamed : (n : ℕ) → (n == id) ≡ true → filter (is_resource_after cs id None) (n ∷ []) ≡ []
    unnamed n e = rw e refl

    by_cases : (known : Bool) → is_in (ids_at cs Calendar) id ≡ known → filter (is_resource_after cs id None) (with_id (ids_at cs Calendar) id) ≡ filter (λ n. not (n == id)) (resources_at cs)
    by_cases true e = ap (filter (is_resource_after cs id None)) (with_known (ids_at cs Calendar) id e) ∙ filter_gone (is_resource cs) id (ids_at cs Calendar)
    by_cases false e =
        ap (filter (is_resource_after cs id None)) (with_new (ids_at cs Calendar) id e)
        ∙ filter-append (is_resource_after cs id None) (ids_at cs Calendar) (id ∷ [])
        ∙ ap (λ ns. filter (is_resource_after cs id None) (ids_at cs Calendar) ++ ns) (unnamed id (number_same id id refl))
        ∙ append-nil (filter (is_resource_after cs id None) (ids_at cs Calendar))
        ∙ filter_gone (is_resource cs) id (ids_at cs Calendar)

removed_rooms : (zones : List ZoneText) (cs : List Change) (id : ℕ) → without_room id (rooms_at zones cs) ≡ rooms_at zones (calendar_after cs id None)
removed_rooms zones cs id = rooms_without zones cs id (resources_at cs) ∙ sym (calendar_rooms zones cs id None ∙ ap (map (room_at zones cs)) (removed_resources cs id))

-- a number that was not given is of no calendar
pub not_live : (cs : List Change) (id : ℕ) → is_in (ids_at cs Calendar) id ≡ false → live_object cs Calendar id ≡ None
not_live cs id new = by_cases (live_object cs Calendar id) refl
  where
    by_cases : (o : Option Tree) → live_object cs Calendar id ≡ o → o ≡ None
    by_cases None e = refl
    by_cases (Some t) e = absurd (false≢true (sym new ∙ live_is_numbered cs Calendar id (ap is_some e)))

no_resource : (cs : List Change) (id : ℕ) → live_object cs Calendar id ≡ None → is_resource cs id ≡ false
no_resource cs id gone = ap is_of_resource gone

with_room_by : (id : ℕ) (rs : List BookedRoom) (there : Bool) → has_room id rs ≡ there → with_room id rs ≡ (if there then rs else rs ++ record { calendar = id; bookings = [] } ∷ [])
with_room_by id rs there h = rw h refl

-- a calendar that is created
pub created_rooms : (zones : List ZoneText) (cs : List Change) (id : ℕ) (t : Tree) → bookings_of zones cs id ≡ [] → is_in (ids_at cs Calendar) id ≡ false
    → rooms_by Calendar id (Some t) None (rooms_at zones cs) ≡ rooms_at zones (calendar_after cs id (Some t))
created_rooms zones cs id t none new = by_cases (is_some (zone_of_resource t)) refl ∙ sym (calendar_rooms zones cs id (Some t) ∙ ap (map (room_at zones cs)) listed)
  where
    listed : resources_at (calendar_after cs id (Some t)) ≡ resources_at cs ++ filter (is_resource_after cs id (Some t)) (id ∷ [])
    listed =
        resources_after cs id (Some t)
        ∙ ap (filter (is_resource_after cs id (Some t))) (with_new (ids_at cs Calendar) id new)
        ∙ filter-append (is_resource_after cs id (Some t)) (ids_at cs Calendar) (id ∷ [])
        ∙ ap (λ ns. ns ++ filter (is_resource_after cs id (Some t)) (id ∷ [])) (filter_without (is_resource cs) (is_some (zone_of_resource t)) id (ids_at cs Calendar) new)

    tested : (n : ℕ) (z : Bool) → (n == id) ≡ true → is_some (zone_of_resource t) ≡ z → filter (is_resource_after cs id (Some t)) (n ∷ []) ≡ (if z then n ∷ [] else [])
    tested n z e f = rw (e, f) refl

    by_cases : (z : Bool) → is_some (zone_of_resource t) ≡ z
        → rooms_by Calendar id (Some t) None (rooms_at zones cs) ≡ map (room_at zones cs) (resources_at cs ++ filter (is_resource_after cs id (Some t)) (id ∷ []))
    by_cases true e =
        ap (λ z. if z then with_room id (rooms_at zones cs) else rooms_at zones cs) e
        ∙ with_room_by id (rooms_at zones cs) false (no_room zones cs id (no_resource cs id (not_live cs id new)))
        ∙ ap (λ bs. rooms_at zones cs ++ record { calendar = id; bookings = bs } ∷ []) (sym none)
        ∙ sym (ap (λ ns. map (room_at zones cs) (resources_at cs ++ ns)) (tested id true (number_same id id refl) e) ∙ map_push (room_at zones cs) (resources_at cs) id)
    by_cases false e =
        ap (λ z. if z then with_room id (rooms_at zones cs) else rooms_at zones cs) e
        ∙ sym (ap (λ ns. map (room_at zones cs) (resources_at cs ++ ns)) (tested id false (number_same id id refl) e) ∙ ap (map (room_at zones cs)) (append-nil (resources_at cs)))

-- a calendar that is there, and is of a resource as before or is not as before
updated_rooms : (zones : List ZoneText) (cs : List Change) (id : ℕ) (t : Tree) → is_in (ids_at cs Calendar) id ≡ true → is_some (zone_of_resource t) ≡ is_resource cs id
    → rooms_by Calendar id (Some t) None (rooms_at zones cs) ≡ rooms_at zones (calendar_after cs id (Some t))
updated_rooms zones cs id t known same = by_cases (is_resource cs id) refl ∙ sym (calendar_rooms zones cs id (Some t) ∙ ap (map (room_at zones cs)) listed)
  where
    tested : (n : ℕ) → is_resource_after cs id (Some t) n ≡ is_resource cs n
    tested n = by_test (λ b. b ≡ is_resource cs n) (n == id) (is_some (zone_of_resource t)) (is_resource cs n) (λ e. same ∙ ap (is_resource cs) (sym (same_number n id e))) (λ e. refl)

    listed : resources_at (calendar_after cs id (Some t)) ≡ resources_at cs
    listed =
        resources_after cs id (Some t)
        ∙ ap (filter (is_resource_after cs id (Some t))) (with_known (ids_at cs Calendar) id known)
        ∙ filter_agree (is_resource_after cs id (Some t)) (is_resource cs) tested (ids_at cs Calendar)

    by_cases : (z : Bool) → is_resource cs id ≡ z → rooms_by Calendar id (Some t) None (rooms_at zones cs) ≡ rooms_at zones cs
    by_cases true e =
        ap (λ z. if z then with_room id (rooms_at zones cs) else rooms_at zones cs) (same ∙ e)
        ∙ with_room_by id (rooms_at zones cs) true (room_of_resource zones cs id e)
    by_cases false e = ap (λ z. if z then with_room id (rooms_at zones cs) else rooms_at zones cs) (same ∙ e)

-- a calendar that is put as a resource was one, or has no bookings
put_resource : (zones : List ZoneText) (cs : List Change) (rs : List BookedRoom) (id : ℕ) (t : Tree) → AreRooms zones cs rs → IsObjectFit zones cs Calendar id (Some t)
    → is_in (ids_at cs Calendar) (next_number cs Calendar) ≡ false → is_some (zone_of_resource t) ≡ true → (bookings_of zones cs id ≡ []) ⊎ (is_resource cs id ≡ true)
put_resource zones cs rs id t h fit new z =
    elim fit [ inl next ↦ inl (h.none id (not_live cs id (ap (is_in (ids_at cs Calendar)) next ∙ new))) | inr same ↦ inr (sym same ∙ z) ]

-- what holds of no bookings, and of those of each resource
each_resource : (P : List Booking → Type 0) (zones : List ZoneText) (cs : List Change) (rs : List BookedRoom) (id : ℕ) (o : Option Tree) → AreRooms zones cs rs → IsObjectFit zones cs Calendar id o
    → is_in (ids_at cs Calendar) (next_number cs Calendar) ≡ false → P [] → ((n : ℕ) → is_resource cs n ≡ true → P (bookings_of zones cs n))
    → (n : ℕ) → is_resource (calendar_after cs id o) n ≡ true → P (bookings_of zones (calendar_after cs id o) n)
each_resource P zones cs rs id o h fit new empty each n r = subst P (sym (calendar_bookings zones cs id o n)) (by_cases (n == id) refl (sym (resource_now cs id o n) ∙ r))
  where
    put : (q : Option Tree) → IsObjectFit zones cs Calendar id q → is_of_resource q ≡ true → P (bookings_of zones cs id)
    put None f z = absurd (false≢true z)
    put (Some t) f z = elim (put_resource zones cs rs id t h f new z) [ inl none ↦ subst P (sym none) empty | inr resource ↦ each id resource ]

    by_cases : (same : Bool) → (n == id) ≡ same → (if same then is_of_resource o else is_resource cs n) ≡ true → P (bookings_of zones cs n)
    by_cases true e z = subst (λ m. P (bookings_of zones cs m)) (sym (same_number n id e)) (put o fit z)
    by_cases false e z = each n z

calendar_none : (zones : List ZoneText) (cs : List Change) (id : ℕ) (o : Option Tree) → ((n : ℕ) → live_object cs Calendar n ≡ None → bookings_of zones cs n ≡ []) → IsObjectFit zones cs Calendar id o
    → (n : ℕ) → live_object (calendar_after cs id o) Calendar n ≡ None → bookings_of zones (calendar_after cs id o) n ≡ []
calendar_none zones cs id o none fit n gone = calendar_bookings zones cs id o n ∙ by_cases (n == id) refl (sym (calendar_now cs id o n) ∙ gone)
  where
    removed : (q : Option Tree) → IsObjectFit zones cs Calendar id q → q ≡ None → bookings_of zones cs id ≡ []
    removed None f e = nothing_booked (bookings_of zones cs id) (not_booked zones cs id f)
    removed (Some t) f e = absurd (none-some t (sym e))

    by_cases : (same : Bool) → (n == id) ≡ same → (if same then o else live_object cs Calendar n) ≡ None → bookings_of zones cs n ≡ []
    by_cases true e g = ap (bookings_of zones cs) (same_number n id e) ∙ removed o fit g
    by_cases false e g = none n g

put_rooms : (zones : List ZoneText) (cs : List Change) (rs : List BookedRoom) (id : ℕ) (o : Option Tree) → AreRooms zones cs rs → IsObjectFit zones cs Calendar id o
    → (id ≡ next_number cs Calendar) ⊎ (is_some (live_object cs Calendar id) ≡ true) → is_in (ids_at cs Calendar) (next_number cs Calendar) ≡ false
    → rooms_by Calendar id o None (rooms_at zones cs) ≡ rooms_at zones (calendar_after cs id o)
put_rooms zones cs rs id None h fit number new = removed_rooms zones cs id
put_rooms zones cs rs id (Some t) h fit number new = elim number [ inl next ↦ created (ap (is_in (ids_at cs Calendar)) next ∙ new) | inr live ↦ there live fit ]
  where
    created : is_in (ids_at cs Calendar) id ≡ false → rooms_by Calendar id (Some t) None (rooms_at zones cs) ≡ rooms_at zones (calendar_after cs id (Some t))
    created unknown = created_rooms zones cs id t (h.none id (not_live cs id unknown)) unknown

    there : is_some (live_object cs Calendar id) ≡ true → (id ≡ next_number cs Calendar) ⊎ (is_some (zone_of_resource t) ≡ is_resource cs id)
        → rooms_by Calendar id (Some t) None (rooms_at zones cs) ≡ rooms_at zones (calendar_after cs id (Some t))
    there live (inl next) = created (ap (is_in (ids_at cs Calendar)) next ∙ new)
    there live (inr same) = updated_rooms zones cs id t (live_is_numbered cs Calendar id live) same

calendar_follows : (zones : List ZoneText) (cs : List Change) (id : ℕ) (o : Option Tree) (rs : List BookedRoom) → AreRooms zones cs rs → IsObjectFit zones cs Calendar id o
    → (id ≡ next_number cs Calendar) ⊎ (is_some (live_object cs Calendar id) ≡ true) → is_in (ids_at cs Calendar) (next_number cs Calendar) ≡ false
    → AreRooms zones (calendar_after cs id o) (rooms_by Calendar id o None rs)
calendar_follows zones cs id o rs h fit number new = record {
  rooms = ap (rooms_by Calendar id o None) h.rooms ∙ put_rooms zones cs rs id o h fit number new;
  free = each_resource IsFree zones cs rs id o h fit new (λ x. refl) h.free;
  few = each_resource (λ bs. length bs ≤ MAX_BOOKINGS) zones cs rs id o h fit new (omega arith) h.few;
  none = calendar_none zones cs id o h.none fit;
}

follows : (zones : List ZoneText) (cs : List Change) (kind : Kind) (id : ℕ) (o : Option Tree) (rs : List BookedRoom) → AreRooms zones cs rs → IsObjectFit zones cs kind id o
    → (id ≡ next_number cs kind) ⊎ (is_some (live_object cs kind id) ≡ true) → is_in (ids_at cs Calendar) (next_number cs Calendar) ≡ false
    → AreRooms zones (cs ++ change kind id o ∷ []) (rooms_by kind id o (series_put zones (change kind id o)) rs)
follows zones cs Calendar id o rs h fit number new = calendar_follows zones cs id o rs h fit number new
follows zones cs Event id o rs h fit number new = event_follows zones cs id o rs h fit

-- a change that fits keeps what the rooms keep
pub rooms_more : (zones : List ZoneText) (cs : List Change) (c : Change) (rs : List BookedRoom) → AreRooms zones cs rs → IsFit zones cs c → is_in (ids_at cs Calendar) (next_number cs Calendar) ≡ false
    → AreRooms zones (cs ++ c ∷ []) (rooms_after c (series_put zones c) rs)
rooms_more zones cs c rs h fit new = follows zones cs c.kind c.id c.object rs h fit.object fit.number new

may_by : (zones : List ZoneText) (cs : List Change) (kind : Kind) (id : ℕ) (o : Option Tree) (rs : List BookedRoom) → AreRooms zones cs rs → IsObjectFit zones cs kind id o → MayChange rs kind o (series_put zones (change kind id o))
may_by zones cs Calendar id o rs h fit = tt
may_by zones cs Event id None rs h fit = tt
may_by zones cs Event id (Some t) rs h fit = λ n there named.
    let takes = fit.bookings n named (resource_of_room zones cs n (sym (ap (has_room n) h.rooms) ∙ there)) in
    record { series = takes.series; is = takes.valid; week = takes.week }

-- and its event may be booked
pub rooms_may : (zones : List ZoneText) (cs : List Change) (c : Change) (rs : List BookedRoom) → AreRooms zones cs rs → IsFit zones cs c → MayChange rs c.kind c.object (series_put zones c)
rooms_may zones cs c rs h fit = may_by zones cs c.kind c.id c.object rs h fit.object

pub no_rooms : (zones : List ZoneText) → AreRooms zones [] []
no_rooms zones = record { rooms = refl; free = λ n r. absurd (false≢true r); few = λ n r. absurd (false≢true r); none = λ n e. refl }

-- What rooms are.

pub calendars_of_rooms : (zones : List ZoneText) (cs : List Change) (ns : List ℕ) → map (λ (r : BookedRoom). r.calendar) (map (room_at zones cs) ns) ≡ ns
calendars_of_rooms zones cs [] = refl
calendars_of_rooms zones cs (n ∷ ns) = ap (λ ms. n ∷ ms) (calendars_of_rooms zones cs ns)

bookings_found : (zones : List ZoneText) (cs : List Change) (n : ℕ) (ns : List ℕ) → is_in ns n ≡ true → bookings_in n (map (room_at zones cs) ns) ≡ bookings_of zones cs n
bookings_found zones cs n [] h = absurd (false≢true h)
bookings_found zones cs n (m ∷ ns) h = by_cases (m == n) refl h (bookings_found zones cs n ns)
  where
    by_cases : (same : Bool) → (m == n) ≡ same → (same || is_in ns n) ≡ true → (is_in ns n ≡ true → bookings_in n (map (room_at zones cs) ns) ≡ bookings_of zones cs n)
        → (if same then bookings_of zones cs m else bookings_in n (map (room_at zones cs) ns)) ≡ bookings_of zones cs n
    by_cases true e g rest = ap (bookings_of zones cs) (same_number m n e)
    by_cases false e g rest = rest g

pub bookings_of_room : (zones : List ZoneText) (cs : List Change) (n : ℕ) → is_resource cs n ≡ true → bookings_in n (rooms_at zones cs) ≡ bookings_of zones cs n
bookings_of_room zones cs n h =
    bookings_found zones cs n (resources_at cs)
    (in_filter (is_resource cs) (ids_at cs Calendar) n h (live_is_numbered cs Calendar n (resource_is_live cs n h)))
