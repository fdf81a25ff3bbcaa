-- What follows where nothing stands against the bookings of an event.
use Rattle.std.proofs.Common.{◌≡◌, ◌+◌, ◌==◌, ◌&&◌, ◌||◌, ◌<◌, ◌≤◌, ℕ, List, [], ◌∷◌, All, Bool, true, false, not, Option, Some, None, drop, get_or, length, option_map, nat_le, option_and_then, arith, refl, sym, ap, ◌∙◌, subst}
use Rattle.std.proofs.lemmas.Bool.{false≢true}
use Rattle.std.proofs.lemmas.Bool.Decides.{nat_tests}
use Rattle.std.proofs.lemmas.List.Elements.{All-cons, All-filter, All-head, All-nil, All-tail, filter_passes}
use Rattle.std.specs.List.{list_any}
use Rattle.std.proofs.lemmas.List.{at_drop_more}
use Rattle.std.specs.Option.{option_map_or, option_or}
use Rattle.cal_model.specs.Fits.{IsBookable}
use Rattle.event_series.proofs.SeriesLemmas.{series_parts_of}
use Rattle.event_series.specs.EventSeries.{IsSeriesOf}
use Rattle.spec_events.specs.Events.{length_in, names_calendar}
use Rattle.spec_history.specs.History.{ids_at}
use Rattle.spec_history.specs.Pages.{is_in}
use Rattle.spec_history.specs.declared.entry.Change.{Change}
use Rattle.spec_history.specs.declared.entry.Kind.TheVariants.{Calendar}
use Rattle.spec_json.specs.Data.{Data}
use Rattle.spec_recurrence.specs.Overrides.{exceptions_in}
use Rattle.spec_recurrence.specs.SeriesOf.{series_in}
use Rattle.spec_bookings.proofs.Numbered.{resource_is_found}
use Rattle.spec_bookings.specs.BookingRules.{has_long_override, is_booking, is_long_booking}
use Rattle.spec_bookings.specs.BookedResources.{clash_of_event, first_clash_in, has_full_resource, other_bookings}
use Rattle.spec_bookings.specs.Resources.{is_resource, resources_at, resources_of}
use Rattle.spec_bookings.specs.declared.limits.TheConstants.{MAX_BOOKINGS}
use Rattle.spec_bookings.specs.Clashes.{IsClear, first_clash}
use Rattle.spec_bookings.specs.declared.clash.Clash.{Clash}
use Rattle.spec_series.specs.Lengths.{IsWeekLong, are_week_long}
use Rattle.spec_series.specs.SeriesLimits.{wall_seconds}
use Rattle.spec_series.specs.declared.series.Series.{Series}
use Rattle.spec_site.specs.TimeZones.{ZoneText}

-- The resources that an event is in.

pub all_resources : (cs : List Change) (d : Data) → All (λ n. is_resource cs n ≡ true) (resources_of cs d)
all_resources cs d = All-filter (λ n. names_calendar n d) (λ n. is_resource cs n ≡ true) (resources_at cs) (filter_passes (is_resource cs) (ids_at cs Calendar))

at_by : (P : ℕ → Type 0) (m n : ℕ) (same : Bool) (rest : Bool) → (m == n) ≡ same → P m → (rest ≡ true → P n) → (same || rest) ≡ true → P n
at_by P m n true rest e h later there = let alike : m ≡ n = grind (arith, nat_tests) in subst P alike h
at_by P m n false rest e h later there = later there

-- what holds of all holds of one of them
all_at : (P : ℕ → Type 0) (ns : List ℕ) (n : ℕ) → All P ns → is_in ns n ≡ true → P n
all_at P [] n all there = absurd (false≢true there)
all_at P (m ∷ ns) n all there = at_by P m n (m == n) (is_in ns n) refl (All-head P m ns all) (all_at P ns n (All-tail P m ns all)) there

-- none of these is none of the resources
pub no_resources : (cs : List Change) (d : Data) (ns : List ℕ) → ns ≡ resources_of cs d → true ≡ (length ns == 0) → resources_of cs d ≡ []
no_resources cs d [] is h = sym is
no_resources cs d (n ∷ ns) is h = absurd (grind (arith, nat_tests))

pub some_resources : (cs : List Change) (d : Data) (ns : List ℕ) → ns ≡ resources_of cs d → false ≡ (length ns == 0) → resources_of cs d ≡ [] → ⊥
some_resources cs d ns is h none = let no : (length ns == 0) ≡ true = ap (λ ms. length ms == 0) (is ∙ none) in false≢true (h ∙ no)

-- Where the event is in none, nothing clashes.

none_of : (o : Option Series) → None ≡ option_and_then {U = ℕ × Clash} (λ s. None) o
none_of None = refl
none_of (Some s) = refl

pub no_clash : (zones : List ZoneText) (cs : List Change) (n : ℕ) (d : Data) → resources_of cs d ≡ [] → None ≡ clash_of_event zones cs n d
no_clash zones cs n d none = rw none (none_of (series_in zones d))

pub none_full : (zones : List ZoneText) (cs : List Change) (n : ℕ) (d : Data) → resources_of cs d ≡ [] → false ≡ has_full_resource zones cs n d
none_full zones cs n d none = rw none refl

-- No occurrence is too long.

some_by : (ns : List ℕ) → (ns ≡ [] → ⊥) → not (length ns == 0) ≡ true
some_by [] h = absurd (h refl)
some_by (n ∷ ns) h = let none : (length (n ∷ ns) == 0) ≡ false = grind (arith, nat_tests) in rw none refl

some_booking : (cs : List Change) (d : Data) → (resources_of cs d ≡ [] → ⊥) → is_booking cs d ≡ true
some_booking cs d some = some_by (resources_of cs d) some

not_long : (a b : Bool) → a ≡ true → (a && not b) ≡ false → b ≡ true
not_long true true e h = refl
not_long true false e h = absurd (false≢true (sym h))
not_long false b e h = absurd (false≢true e)

short_enough : (n : ℕ) → nat_le n 604800 ≡ true → n ≤ 604800
short_enough n h = grind (arith, nat_tests)

-- the exceptions of an event's series are those that its overrides come to
pub series_exceptions : (zones : List ZoneText) (d : Data) (s : Series) → series_in zones d ≡ Some s → exceptions_in zones d ≡ Some s.exceptions
series_exceptions zones d s h = (series_parts_of zones d s h).exceptions

pub long_of_series : (zones : List ZoneText) (cs : List Change) (d : Data) (s : Series) (ns : List ℕ) → series_in zones d ≡ Some s → ns ≡ resources_of cs d
    → (not (length ns == 0) && not (are_week_long s.exceptions)) ≡ has_long_override zones cs d
long_of_series zones cs d s ns value named = rw (series_exceptions zones d s value, named) refl

pub week_long : (zones : List ZoneText) (cs : List Change) (d : Data) (s : Series) → IsSeriesOf zones d s → (resources_of cs d ≡ [] → ⊥)
    → is_long_booking cs d ≡ false → has_long_override zones cs d ≡ false → IsWeekLong s
week_long zones cs d s of some short shorts =
    let is = some_booking cs d some in
    let own : wall_seconds (length_in d) ≤ 604800 = short_enough _ (not_long (is_booking cs d) _ is short) in
    let replaced : option_map_or are_week_long (exceptions_in zones d) true ≡ true = not_long (is_booking cs d) _ is shorts in
    record {
      own = subst (λ l. wall_seconds l ≤ 604800) (sym of.length) own;
      replaced = rw of.exceptions at replaced;
    }

-- Each of them takes the booking.

under : (n : ℕ) → nat_le MAX_BOOKINGS n ≡ false → n < MAX_BOOKINGS
under n h = grind (arith, nat_tests)

neither : (a b : Bool) → (a || b) ≡ false → (a ≡ false) × (b ≡ false)
neither true b h = absurd (false≢true (sym h))
neither false b h = (refl, h)

all_fail : (p : ℕ → Bool) (ns : List ℕ) → list_any p ns ≡ false → All (λ n. p n ≡ false) ns
all_fail p [] h = All-nil (λ n. p n ≡ false)
all_fail p (n ∷ ns) h = let parts = neither (p n) (list_any p ns) h in All-cons (λ m. p m ≡ false) n ns parts.0 (all_fail p ns parts.1)

pub takes_booking : (zones : List ZoneText) (cs : List Change) (n : ℕ) (d : Data) (s : Series) → series_in zones d ≡ Some s → IsWeekLong s
    → has_full_resource zones cs n d ≡ false → All (λ m. IsClear (other_bookings zones cs n m) s) (resources_of cs d)
    → (calendar : ℕ) → names_calendar calendar d ≡ true → is_resource cs calendar ≡ true → IsBookable zones cs n calendar d
takes_booking zones cs n d s valid week room clear calendar named resource =
    let there = resource_is_found cs d calendar resource named in
    record {
      series = s;
      valid = valid;
      week = week;
      room = under _ (all_at (λ m. nat_le MAX_BOOKINGS (length (other_bookings zones cs n m)) ≡ false) (resources_of cs d) calendar (all_fail _ (resources_of cs d) room) there);
      clear = all_at (λ m. IsClear (other_bookings zones cs n m) s) (resources_of cs d) calendar clear there;
    }

-- an event that is in no resource books nothing
pub takes_none : (zones : List ZoneText) (cs : List Change) (n : ℕ) (d : Data) → resources_of cs d ≡ []
    → (calendar : ℕ) → names_calendar calendar d ≡ true → is_resource cs calendar ≡ true → IsBookable zones cs n calendar d
takes_none zones cs n d none calendar named resource =
    absurd (false≢true (ap (λ ns. is_in ns calendar) (sym none) ∙ resource_is_found cs d calendar resource named))

-- Where one of these passes a test, some do; one that fails it is passed over.

any_first : (p : ℕ → Bool) (n : ℕ) (ns : List ℕ) → true ≡ p n → true ≡ list_any p (n ∷ ns)
any_first p n ns is = rw (sym is) refl

pub is_found : (p : ℕ → Bool) (ns : List ℕ) (i : ℕ) → i < length ns → true ≡ p (get_or ns i 0) → true ≡ list_any p (drop i ns)
is_found p ns i there is = any_first p (get_or ns i 0) (drop (i + 1) ns) is ∙ sym (at_drop_more (list_any p) ns i 0 there)

any_rest : (p : ℕ → Bool) (n : ℕ) (ns : List ℕ) → false ≡ p n → list_any p ns ≡ list_any p (n ∷ ns)
any_rest p n ns is = rw (sym is) refl

pub is_passed : (p : ℕ → Bool) (ns : List ℕ) (i : ℕ) → i < length ns → false ≡ p (get_or ns i 0) → list_any p (drop (i + 1) ns) ≡ list_any p (drop i ns)
is_passed p ns i there is = any_rest p (get_or ns i 0) (drop (i + 1) ns) is ∙ sym (at_drop_more (list_any p) ns i 0 there)

-- a calendar in which nothing clashes is passed over
pub passed_over : (zones : List ZoneText) (cs : List Change) (n : ℕ) (s : Series) (ns : List ℕ) (i : ℕ) → i < length ns → None ≡ first_clash (other_bookings zones cs n (get_or ns i 0)) s
    → first_clash_in zones cs n s (drop (i + 1) ns) ≡ first_clash_in zones cs n s (drop i ns)
passed_over zones cs n s ns i there none =
    sym (at_drop_more (first_clash_in zones cs n s) ns i 0 there
    ∙ ap (λ o. option_or (option_map (λ clash. (get_or ns i 0, clash)) o) (first_clash_in zones cs n s (drop (i + 1) ns))) (sym none))
