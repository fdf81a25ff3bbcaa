-- Nothing stands against an event that is put again, where an account goes on from the history.
use Rattle.std.proofs.Common.{take, ◌≡◌, ◌∙◌, ◌<◌, ◌||◌, ℕ, suc, List, [], ◌∷◌, Bool, true, false, Option, Some, None, is_some, length, nat_le, option_and_then, option_map, arith, refl, sym, ap, if◌then◌else◌}
use Rattle.std.proofs.lemmas.Bool.{false≢true}
use Rattle.std.proofs.lemmas.Bool.Decides.{nat_tests}
use Rattle.std.specs.List.{list_any, slice_get}
use Rattle.std.specs.Option.{option_or}
use Rattle.account_opening.proofs.ClearLemmas.{clear_beside, fewer_beside}
use Rattle.account_opening.proofs.NumberedLemmas.{numbers_in_order}
use Rattle.account_opening.proofs.PutAgainLemmas.{calendars_are, events_are, new_there}
use Rattle.account_opening.specs.Again.{again_at}
use Rattle.account_opening.specs.Opening.{FitsButForObjects}
use Rattle.account_rooms.proofs.Resources.{at_resource}
use Rattle.account_rooms.proofs.Seconds.{least_first_clash}
use Rattle.account_store.specs.Earlier.{live_ids}
use Rattle.resource_book.proofs.Clashes.{to_clash}
use Rattle.rule_expand.specs.Least.{IsLeastOf}
use Rattle.spec_bookings.proofs.Listed.{live_booked, live_rise}
use Rattle.spec_bookings.specs.BookedResources.{booked_in, bookings_of, clash_of_event, first_clash_in, has_full_resource, other_bookings}
use Rattle.spec_bookings.specs.Clashes.{IsClash, IsClear, first_clash, second_of}
use Rattle.spec_bookings.specs.HistoryBookings.{booked_by}
use Rattle.spec_bookings.specs.Resources.{is_resource, resources_of, zone_of_resource}
use Rattle.spec_bookings.specs.Rising.{series_booked}
use Rattle.spec_bookings.specs.declared.booking.Booking.{Booking}
use Rattle.spec_bookings.specs.declared.clash.Clash.{Clash}
use Rattle.spec_bookings.specs.declared.limits.TheConstants.{MAX_BOOKINGS}
use Rattle.spec_events.specs.Events.{names_calendar}
use Rattle.spec_history.specs.History.{ids_at, live_object}
use Rattle.spec_history.specs.Pages.{is_in}
use Rattle.spec_history.specs.declared.entry.Change.{Change}
use Rattle.spec_history.specs.declared.entry.Kind.TheVariants.{Event}
use Rattle.spec_json.specs.TreeData.{data_of}
use Rattle.spec_json.specs.declared.tree.Tree.{Tree}
use Rattle.spec_recurrence.specs.SeriesOf.{series_in}
use Rattle.spec_series.specs.declared.series.Series.{Series}
use Rattle.spec_site.specs.TimeZones.{ZoneText}

-- ---- What no element of a list does.

none_of : (p : ℕ → Bool) (ns : List ℕ) → ((j n : ℕ) → slice_get ns j ≡ Some n → p n ≡ false) → list_any p ns ≡ false
none_of p [] h = refl
none_of p (m ∷ ns) h = ap (λ b. b || list_any p ns) (h 0 m refl) ∙ none_of p ns (λ j n e. h (suc j) n e)

-- a series that is clear of bookings has no clash with them
clear_none : (bs : List Booking) (s : Series) → IsClear bs s → first_clash bs s ≡ None
clear_none bs s clear = by_clash (first_clash bs s) (least_first_clash bs s)
  where
    by_clash : (o : Option Clash) → IsLeastOf (IsClash bs s) (option_map second_of o) → o ≡ None
    by_clash None h = refl
    by_clash (Some c) h = absurd (false≢true (sym (clear (second_of c)) ∙ to_clash bs s (second_of c) h.holds))

none_first : (zones : List ZoneText) (cs : List Change) (id : ℕ) (s : Series) (ns : List ℕ) → ((j n : ℕ) → slice_get ns j ≡ Some n → IsClear (other_bookings zones cs id n) s) → first_clash_in zones cs id s ns ≡ None
none_first zones cs id s [] h = refl
none_first zones cs id s (n ∷ ns) h =
    ap (λ (o : Option Clash). option_or (option_map (λ (clash : Clash). (n, clash)) o) (first_clash_in zones cs id s ns)) (clear_none (other_bookings zones cs id n) s (h 0 n refl))
    ∙ none_first zones cs id s ns (λ j m e. h (suc j) m e)

not_full : (n : ℕ) → n < MAX_BOOKINGS → nat_le MAX_BOOKINGS n ≡ false
not_full n h = grind (arith, nat_tests)

-- ---- The next of the live events.

module _ (zones : List ZoneText) (cs : List Change) (fits : FitsButForObjects zones cs) (k id : ℕ) (t : Tree) (at : slice_get (live_ids cs Event) k ≡ Some id) (live : live_object cs Event id ≡ Some t)
    (s : Series) (valid : series_in zones (data_of t) ≡ Some s) where
  abbrev again : List Change
  again = again_at cs k

  module _ (n : ℕ) (resource : is_resource again n ≡ true) (named : names_calendar n (data_of t) ≡ true) where
    there : is_resource cs n ≡ true
    there = ap (λ o. is_some (option_and_then zone_of_resource o)) (sym (calendars_are cs k n)) ∙ resource

    own : series_booked id (bookings_of zones cs n) ≡ Some s
    own = live_booked (booked_in zones n) cs id ∙ ap (booked_by (booked_in zones n)) live ∙ ap (λ b. if b then series_in zones (data_of t) else None) named ∙ valid

    booked_again_by : (m : ℕ) (b : Bool) (r : Series) → booked_by (booked_in zones n) (if b then live_object cs Event m else None) ≡ Some r → booked_by (booked_in zones n) (live_object cs Event m) ≡ Some r
    booked_again_by m true r h = h
    booked_again_by m false r h = absurd (cc h)

    some : (m : ℕ) (r : Series) → series_booked m (bookings_of zones again n) ≡ Some r → series_booked m (bookings_of zones cs n) ≡ Some r
    some m r h =
        live_booked (booked_in zones n) cs m
        ∙ booked_again_by m (is_in (take k (live_ids cs Event)) m) r (ap (booked_by (booked_in zones n)) (sym (events_are cs k m)) ∙ sym (live_booked (booked_in zones n) again m) ∙ h)

    new : series_booked id (bookings_of zones again n) ≡ None
    new =
        live_booked (booked_in zones n) again id
        ∙ ap (booked_by (booked_in zones n)) (events_are cs k id ∙ ap (λ b. if b then live_object cs Event id else None) (new_there cs (λ q. length (ids_at cs q)) (numbers_in_order cs fits.numbered) Event k id at))

    clear : IsClear (other_bookings zones again id n) s
    clear = clear_beside id s (bookings_of zones again n) (bookings_of zones cs n) (live_rise (booked_in zones n) again) (fits.free n there) own new some

    room : length (other_bookings zones again id n) < MAX_BOOKINGS
    room =
        let fewer = fewer_beside id s (bookings_of zones again n) (bookings_of zones cs n) (live_rise (booked_in zones n) again) (live_rise (booked_in zones n) cs) own some in
        omega (arith, fewer, fits.few n there)

  pub none_full : has_full_resource zones again id (data_of t) ≡ false
  none_full = none_of (λ n. nat_le MAX_BOOKINGS (length (other_bookings zones again id n))) (resources_of again (data_of t))
      (λ j n e. let is = at_resource again (data_of t) j n e in not_full (length (other_bookings zones again id n)) (room n is.0 is.1))

  pub none_clashes : clash_of_event zones again id (data_of t) ≡ None
  none_clashes =
      ap (λ (o : Option Series). option_and_then (λ r. first_clash_in zones again id r (resources_of again (data_of t))) o) valid
      ∙ none_first zones again id s (resources_of again (data_of t)) (λ j n e. let is = at_resource again (data_of t) j n e in clear n is.0 is.1)
