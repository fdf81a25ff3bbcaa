-- The exceptions that the overrides of an event come to, one by one: as a series has them, and found by their recurrence ids.
use Rattle.std.proofs.Common.{◌≡◌, ◌≤◌, ◌==◌, ℕ, suc, ℤ, List, [], ◌∷◌, Bool, true, false, not, Option, Some, None, Result, Ok, Err, codes, is_some, length, nat_le, option_and_then, option_map, unwrap_or, if◌then◌else◌, arith, refl, sym, ap, ◌∙◌}
use Rattle.std.proofs.lemmas.Bool.{and_from}
use Rattle.std.proofs.lemmas.Bool.Decides.{Decides-int_eq, nat_tests}
use Rattle.std.proofs.lemmas.Option.{same_Some}
use Rattle.std.proofs.lemmas.Slice.Eq.{bytes_eq-Decides}
use Rattle.std.specs.List.{list_any}
use Rattle.std.specs.Ordering.{int_eq}
use Rattle.std.specs.Str.{bytes_eq}
use Rattle.spec_events.specs.Events.{bad_event_properties, event_table, length_in, start_in}
use Rattle.spec_events.specs.Values.{is_showing}
use Rattle.spec_json.proofs.EditLemmas.{lookup_below}
use Rattle.spec_json.proofs.KeyOrder.{both}
use Rattle.spec_json.specs.Data.{Data, Pair, null, truth, whole, text, list, object, field, lookup, pairs_of}
use Rattle.spec_json.specs.ObjectKeys.{is_above, keys_rise}
use Rattle.spec_json.specs.Parts.{all_some, as_object, members_in, object_at}
use Rattle.spec_recurrence.specs.Overrides.{changed_at, changed_span, exception_at, exception_in, exception_of, exceptions_in, first_refused, is_excluded, overrides_in, overrides_of, patch_changes, recurrence_id_in, replaced_by, single, span_in, span_of, touches_fixed}
use Rattle.spec_recurrence.specs.Recurrence.{bad_properties_of_event, is_there}
use Rattle.spec_series.specs.SeriesLimits.{are_distinct, are_in_years, are_short, is_named, is_span_in_years, is_span_short, wall_seconds}
use Rattle.spec_series.specs.declared.exception.Exception.{Exception}
use Rattle.spec_series.specs.declared.exception.Span.{Span}
use Rattle.spec_site.specs.TimeZones.{ZoneText}
use Rattle.spec_time.specs.LocalTimes.{local_in, local_text}
use Rattle.spec_time.specs.Walls.{is_in_years}
use Rattle.overrides.specs.Reports.{Reports}
use Rattle.overrides.specs.declared.exceptions.OverrideError.{OverrideError}
use Rattle.overrides.specs.declared.exceptions.OverrideError.TheVariants.{BadOverride, BadOverrides, NoMemory}
use Rattle.time_text.proofs.WrittenLemmas.{read_back}
use Rattle.event_series.proofs.EventLemmas.{alone_tests, few_seconds, has_exceptions, in_years, length_is_short, start_shows}
use Rattle.event_series.proofs.LocalTextLemmas.{text_back}

-- What one override comes to.

record IsOverridden (zones : List ZoneText) (alone : List Pair) (p : Pair) (x : Exception) : Type 0 where
  patch : List Pair
  is_object : as_object p.1 ≡ Some patch
  rid : local_in p.0 ≡ Some x.rid
  showing : is_showing x.rid ≡ true
  replaced : replaced_by zones p.0 patch alone (is_excluded (lookup (codes "excluded") patch)) ≡ Some x.replaced

showing_by : (v w : ℤ) (shown : Bool) → is_showing v ≡ shown → (if shown then Some v else None) ≡ Some w → (v ≡ w) × (is_showing w ≡ true)
showing_by v w true s h = let same : v ≡ w = same_Some _ _ h in (same, ap is_showing (sym same) ∙ s)
showing_by v w false s h = cc

read_by : (w : ℤ) (found : Option ℤ) → option_and_then (λ v. if is_showing v then Some v else None) found ≡ Some w → (found ≡ Some w) × (is_showing w ≡ true)
read_by w None h = cc
read_by w (Some v) h = let s = showing_by v w (is_showing v) refl h in (ap Some s.0, s.1)

by_replaced : (zones : List ZoneText) (alone : List Pair) (p : Pair) (x : Exception) (patch : List Pair) (w : ℤ) → as_object p.1 ≡ Some patch → recurrence_id_in p.0 ≡ Some w
    → (found : Option (Option Span)) → replaced_by zones p.0 patch alone (is_excluded (lookup (codes "excluded") patch)) ≡ found
    → option_map (λ span. record { rid = w; replaced = span }) found ≡ Some x → IsOverridden zones alone p x
by_replaced zones alone p x patch w o r None e h = cc
by_replaced zones alone p x patch w o r (Some span) e h =
    let same : record { rid = w; replaced = span } ≡ x = same_Some _ _ h in
    let read = read_by x.rid (local_in p.0) (r ∙ ap Some (ap (λ y. y.rid) same)) in
    record { patch = patch; is_object = o; rid = read.0; showing = read.1; replaced = e ∙ ap Some (ap (λ y. y.replaced) same) }

by_rid : (zones : List ZoneText) (alone : List Pair) (p : Pair) (x : Exception) (patch : List Pair) → as_object p.1 ≡ Some patch
    → (found : Option ℤ) → recurrence_id_in p.0 ≡ found → option_and_then (exception_at zones p.0 patch alone) found ≡ Some x → IsOverridden zones alone p x
by_rid zones alone p x patch o None e h = cc
by_rid zones alone p x patch o (Some w) e h = by_replaced zones alone p x patch w o e _ refl h

by_object : (zones : List ZoneText) (alone : List Pair) (p : Pair) (x : Exception) → (found : Option (List Pair)) → as_object p.1 ≡ found
    → option_and_then (exception_of zones alone p.0) found ≡ Some x → IsOverridden zones alone p x
by_object zones alone p x None e h = cc
by_object zones alone p x (Some patch) e h = by_rid zones alone p x patch e (recurrence_id_in p.0) refl h

overridden : (zones : List ZoneText) (alone : List Pair) (p : Pair) (x : Exception) → exception_in zones alone p ≡ Some x → IsOverridden zones alone p x
unfolding exception_in
overridden zones alone p x h = by_object zones alone p x (as_object p.1) refl h

-- Of all of some overrides the first and the others.

record AreParts (o : Option Exception) (rest : Option (List Exception)) (xs : List Exception) : Type 0 where
  x : Exception
  ys : List Exception
  first : o ≡ Some x
  others : rest ≡ Some ys
  are : xs ≡ x ∷ ys

parts_of : (o : Option Exception) (rest : Option (List Exception)) (xs : List Exception) → option_and_then (λ y. option_map (λ ys. y ∷ ys) rest) o ≡ Some xs → AreParts o rest xs
parts_of None rest xs h = cc
parts_of (Some x) None xs h = cc
parts_of (Some x) (Some ys) xs h = record { x = x; ys = ys; first = refl; others = refl; are = sym (same_Some _ _ h) }

no_exceptions : (xs : List Exception) → Some [] ≡ Some xs → xs ≡ []
no_exceptions xs h = sym (same_Some _ _ h)

-- What stands in the place of an occurrence is in the years, and short.

no_bad : (names : List (List ℕ)) → (length names == 0) ≡ true → names ≡ []
no_bad [] h = refl
no_bad (n ∷ ns) h = absurd (grind (arith, nat_tests))

record IsGood (t : Option Span) : Type 0 where
  years : is_span_in_years t ≡ true
  short : is_span_short t ≡ true

short_test : (n : ℕ) → n ≤ 31622400 → nat_le n 31622400 ≡ true
short_test n h = grind (arith, nat_tests)

valid_is_good : (zones : List ZoneText) (d : Data) (t : Span) (valid : Bool) → (length (bad_event_properties zones d) == 0) ≡ valid → (if valid then Some (span_in d) else None) ≡ Some t → IsGood (Some t)
valid_is_good zones d t true v h =
    let none = no_bad (bad_event_properties zones d) v in
    let same : span_in d ≡ t = same_Some _ _ h in
    let years : is_in_years (start_in d) ≡ true = in_years (start_in d) (start_shows (event_table zones) d (alone_tests zones) none) in
    let few = few_seconds (length_in d) (length_is_short (event_table zones) d (alone_tests zones) none) in
    let short : is_span_short (Some (span_in d)) ≡ true = short_test (wall_seconds (length_in d)) few in
    record { years = ap (λ s. is_span_in_years (Some s)) (sym same) ∙ years; short = ap (λ s. is_span_short (Some s)) (sym same) ∙ short }
valid_is_good zones d t false v h = cc

patched_is_good : (zones : List ZoneText) (r : Result Data (List ℕ)) (t : Span) → span_of zones r ≡ Some t → IsGood (Some t)
patched_is_good zones (Ok d) t h = valid_is_good zones d t (length (bad_event_properties zones d) == 0) refl h
patched_is_good zones (Err key) t h = cc

changed_is_good : (zones : List ZoneText) (r : Result Data (List ℕ)) (t : Option Span) (touches : Bool) → option_map Some (if touches then None else span_of zones r) ≡ Some t → IsGood t
changed_is_good zones r t true h = cc
changed_is_good zones r t false h = by (span_of zones r) refl h
  where
    by : (found : Option Span) → span_of zones r ≡ found → option_map Some found ≡ Some t → IsGood t
    by None e h = cc
    by (Some s) e h = let same : Some s ≡ t = same_Some _ _ h in rw (← same) (patched_is_good zones r s e)

replaced_is_good : (zones : List ZoneText) (key : List ℕ) (patch alone : List Pair) (excluded : Option Bool) (t : Option Span) → replaced_by zones key patch alone excluded ≡ Some t → IsGood t
replaced_is_good zones key patch alone None t h = cc
replaced_is_good zones key patch alone (Some true) t h = let same : None ≡ t = same_Some _ _ h in rw (← same) (record { years = refl; short = refl })
replaced_is_good zones key patch alone (Some false) t h = changed_is_good zones (changed_at key (patch_changes patch) alone) t (list_any touches_fixed (patch_changes patch)) h

-- All of them are.

pub record AreGood (xs : List Exception) (n : ℕ) : Type 0 where
  pub count : length xs ≡ n
  pub years : are_in_years xs ≡ true
  pub short : are_short xs ≡ true

one_good : (zones : List ZoneText) (alone : List Pair) (p : Pair) (x : Exception) (ys : List Exception) (n : ℕ) → IsOverridden zones alone p x → AreGood ys n → AreGood (x ∷ ys) (suc n)
one_good zones alone p x ys n h rest =
    let good = replaced_is_good zones p.0 h.patch alone (is_excluded (lookup (codes "excluded") h.patch)) x.replaced h.replaced in
    record {
      count = ap suc rest.count;
      years = and_from _ _ (and_from _ _ (in_years x.rid h.showing) good.years) rest.years;
      short = and_from _ _ good.short rest.short;
    }

all_good : (zones : List ZoneText) (alone ps : List Pair) (xs : List Exception) → all_some (exception_in zones alone) ps ≡ Some xs → AreGood xs (length ps)
all_good zones alone [] xs h = rw (no_exceptions xs h) (record { count = refl; years = refl; short = refl })
all_good zones alone (p ∷ ps) xs h =
    let parts = parts_of (exception_in zones alone p) (all_some (exception_in zones alone) ps) xs h in
    rw parts.are (one_good zones alone p parts.x parts.ys (length ps) (overridden zones alone p parts.x parts.first) (all_good zones alone ps parts.ys parts.others))

-- An override is found by the LocalDateTime of a recurrence id where the exception has this id.

same_test : (key : List ℕ) (rid w : ℤ) → local_in key ≡ Some rid → is_in_years w ≡ true → bytes_eq key (local_text w) ≡ int_eq rid w
same_test key rid w read years = by (bytes_eq key (local_text w)) (int_eq rid w) refl refl
  where
    by : (a b : Bool) → bytes_eq key (local_text w) ≡ a → int_eq rid w ≡ b → a ≡ b
    by true true e f = refl
    by false false e f = refl
    by true false e f =
        let same : key ≡ local_text w = (bytes_eq-Decides key (local_text w)).0 e in
        let back : Some rid ≡ Some w = sym read ∙ ap local_in same ∙ (read_back w years).local in
        sym ((Decides-int_eq rid w).1 (same_Some _ _ back)) ∙ f
    by false true e f =
        let same : rid ≡ w = (Decides-int_eq rid w).0 f in
        sym e ∙ (bytes_eq-Decides key (local_text w)).1 (text_back key rid read ∙ ap local_text same)

-- what the first exception with a recurrence id has in the place of its occurrence
abbrev pub replaced_at : List Exception → ℤ → Option (Option Span)
replaced_at [] w = None
replaced_at (x ∷ xs) w = if int_eq x.rid w then Some x.replaced else replaced_at xs w

-- there is an occurrence in this place, or none
abbrev pub takes_place : Option (Option Span) → Bool → Bool
takes_place None given_by_rules = given_by_rules
takes_place (Some None) given_by_rules = false
takes_place (Some (Some t)) given_by_rules = true

no_some : (found : Option Span) → option_map Some found ≡ Some None → ⊥
no_some None h = cc
no_some (Some t) h = let e : Some t ≡ None = same_Some _ _ h in cc

patch_agrees : (zones : List ZoneText) (key : List ℕ) (patch alone : List Pair) (given : Bool) (excluded : Option Bool) (t : Option Span) → replaced_by zones key patch alone excluded ≡ Some t
    → not (unwrap_or excluded false) ≡ takes_place (Some t) given
patch_agrees zones key patch alone given None t h = cc
patch_agrees zones key patch alone given (Some true) None h = refl
patch_agrees zones key patch alone given (Some true) (Some s) h = cc
patch_agrees zones key patch alone given (Some false) None h = absurd (no_some (changed_span zones key (patch_changes patch) alone) h)
patch_agrees zones key patch alone given (Some false) (Some s) h = refl

one_agrees : (zones : List ZoneText) (alone : List Pair) (p : Pair) (x : Exception) (given : Bool) → IsOverridden zones alone p x → is_there (as_object p.1) given ≡ takes_place (Some x.replaced) given
one_agrees zones alone p x given h =
    ap (λ o. is_there o given) h.is_object ∙ patch_agrees zones p.0 h.patch alone given (is_excluded (lookup (codes "excluded") h.patch)) x.replaced h.replaced

agrees_by : (ps : List Pair) (p : Pair) (x : Exception) (ys : List Exception) (w : ℤ) (given same : Bool) → is_there (as_object p.1) given ≡ takes_place (Some x.replaced) given
    → is_there (option_and_then as_object (lookup (local_text w) ps)) given ≡ takes_place (replaced_at ys w) given
    → is_there (option_and_then as_object (if same then Some p.1 else lookup (local_text w) ps)) given ≡ takes_place (if same then Some x.replaced else replaced_at ys w) given
agrees_by ps p x ys w given true one rest = one
agrees_by ps p x ys w given false one rest = rest

pub overrides_agree : (zones : List ZoneText) (alone ps : List Pair) (xs : List Exception) (w : ℤ) (given : Bool) → is_in_years w ≡ true → all_some (exception_in zones alone) ps ≡ Some xs
    → is_there (option_and_then as_object (lookup (local_text w) ps)) given ≡ takes_place (replaced_at xs w) given
overrides_agree zones alone [] xs w given years h = rw (no_exceptions xs h) refl
overrides_agree zones alone (p ∷ ps) xs w given years h =
    let parts = parts_of (exception_in zones alone p) (all_some (exception_in zones alone) ps) xs h in
    let one = overridden zones alone p parts.x parts.first in
    rw (parts.are, same_test p.0 parts.x.rid w one.rid years)
    (agrees_by ps p parts.x parts.ys w given (int_eq parts.x.rid w) (one_agrees zones alone p parts.x given one) (overrides_agree zones alone ps parts.ys w given years parts.others))

-- No recurrence id is named twice, as no key stands twice.

named_by : (x : Exception) (ys : List Exception) (w : ℤ) (same : Bool) (found : Option Data) (d : Data) → int_eq x.rid w ≡ same → (if same then Some d else found) ≡ None
    → (found ≡ None → is_named ys w ≡ false) → is_named (x ∷ ys) w ≡ false
unfolding is_named
named_by x ys w true found d e none rest = cc
named_by x ys w false found d e none rest = rw e (rest none)

not_named : (zones : List ZoneText) (alone ps : List Pair) (xs : List Exception) (w : ℤ) → is_in_years w ≡ true → all_some (exception_in zones alone) ps ≡ Some xs
    → lookup (local_text w) ps ≡ None → is_named xs w ≡ false
unfolding is_named
not_named zones alone [] xs w years h none = rw (no_exceptions xs h) refl
not_named zones alone (p ∷ ps) xs w years h none =
    let parts = parts_of (exception_in zones alone p) (all_some (exception_in zones alone) ps) xs h in
    let one = overridden zones alone p parts.x parts.first in
    let test = same_test p.0 parts.x.rid w one.rid years in
    rw parts.are (named_by parts.x parts.ys w (int_eq parts.x.rid w) (lookup (local_text w) ps) p.1 refl (rw test at none) (not_named zones alone ps parts.ys w years parts.others))

distinct_by : (x : Exception) (ys : List Exception) → is_named ys x.rid ≡ false → are_distinct ys ≡ true → are_distinct (x ∷ ys) ≡ true
unfolding are_distinct
distinct_by x ys free rest = rw (free, rest) refl

none_distinct : are_distinct [] ≡ true
unfolding are_distinct
none_distinct = refl

all_distinct : (zones : List ZoneText) (alone ps : List Pair) (xs : List Exception) → keys_rise ps ≡ true → all_some (exception_in zones alone) ps ≡ Some xs → are_distinct xs ≡ true
all_distinct zones alone [] xs rise h = rw (no_exceptions xs h) none_distinct
all_distinct zones alone (p ∷ ps) xs rise h =
    let parts = parts_of (exception_in zones alone p) (all_some (exception_in zones alone) ps) xs h in
    let one = overridden zones alone p parts.x parts.first in
    let rises = both (is_above p.0 ps) (keys_rise ps) rise in
    let absent : lookup (local_text parts.x.rid) ps ≡ None = ap (λ k. lookup k ps) (sym (text_back p.0 parts.x.rid one.rid)) ∙ lookup_below p.0 ps rises.0 rises.1 in
    rw parts.are
    (distinct_by parts.x parts.ys (not_named zones alone ps parts.ys parts.x.rid (in_years parts.x.rid one.showing) parts.others absent) (all_distinct zones alone ps parts.ys rises.1 parts.others))

-- The exceptions of an event.

few_by : (ms ps : List Pair) (few : Bool) → nat_le (length ms) 128 ≡ few → (if few then Some ms else None) ≡ Some ps → (ms ≡ ps) × (length ps ≤ 128)
few_by ms ps true e h = let same : ms ≡ ps = same_Some _ _ h in (same, let l : length ms ≤ 128 = grind (arith, nat_tests) in rw (← same) l)
few_by ms ps false e h = cc

record AreOverrides (d : Data) (ps : List Pair) : Type 0 where
  few : length ps ≤ 128
  members : ps ≡ unwrap_or (object_at (codes "recurrenceOverrides") d) []

no_members : (d : Data) (ps : List Pair) → Some [] ≡ Some ps → object_at (codes "recurrenceOverrides") d ≡ None → AreOverrides d ps
no_members d ps h e =
    let none : ps ≡ [] = sym (same_Some _ _ h) in
    record { few = rw none (omega arith); members = none ∙ sym (ap (λ found. unwrap_or found []) e) }

overrides_by : (d : Data) (ps : List Pair) (found : Option Data) → field (codes "recurrenceOverrides") d ≡ found → overrides_of (unwrap_or found null) ≡ Some ps → AreOverrides d ps
overrides_by d ps None e h = no_members d ps h (rw e refl)
overrides_by d ps (Some null) e h = no_members d ps h (rw e refl)
overrides_by d ps (Some (truth b)) e h = cc
overrides_by d ps (Some (whole z)) e h = cc
overrides_by d ps (Some (text s)) e h = cc
overrides_by d ps (Some (list ds)) e h = cc
overrides_by d ps (Some (object ms)) e h =
    let few = few_by (pairs_of ms) ps (nat_le (length (pairs_of ms)) 128) refl h in record { few = few.1; members = rw e (sym few.0) }

-- as a series has them
record AreOfSeries (xs : List Exception) : Type 0 where
  few : length xs ≤ 128
  years : are_in_years xs ≡ true
  short : are_short xs ≡ true
  distinct : are_distinct xs ≡ true

series_by : (zones : List ZoneText) (d : Data) (xs : List Exception) → keys_rise (unwrap_or (object_at (codes "recurrenceOverrides") d) []) ≡ true
    → (found : Option (List Pair)) → overrides_in d ≡ found → option_and_then (all_some (exception_in zones (single (members_in d)))) found ≡ Some xs → AreOfSeries xs
series_by zones d xs rise None e h = cc
series_by zones d xs rise (Some ps) e h =
    let overrides = overrides_by d ps (field (codes "recurrenceOverrides") d) refl e in
    let good = all_good zones (single (members_in d)) ps xs h in
    let least : length xs ≤ 128 = rw good.count overrides.few in
    record {
      few = least;
      years = good.years;
      short = good.short;
      distinct = all_distinct zones (single (members_in d)) ps xs (rw overrides.members rise) h;
    }

exceptions_are_of_series : (zones : List ZoneText) (d : Data) (xs : List Exception) → keys_rise (unwrap_or (object_at (codes "recurrenceOverrides") d) []) ≡ true
    → exceptions_in zones d ≡ Some xs → AreOfSeries xs
exceptions_are_of_series zones d xs rise h = series_by zones d xs rise (overrides_in d) refl h

pub exceptions_are_few : (zones : List ZoneText) (d : Data) (xs : List Exception) → keys_rise (unwrap_or (object_at (codes "recurrenceOverrides") d) []) ≡ true
    → exceptions_in zones d ≡ Some xs → length xs ≤ 128
exceptions_are_few zones d xs rise h = (exceptions_are_of_series zones d xs rise h).few

pub exceptions_are_in_years : (zones : List ZoneText) (d : Data) (xs : List Exception) → keys_rise (unwrap_or (object_at (codes "recurrenceOverrides") d) []) ≡ true
    → exceptions_in zones d ≡ Some xs → are_in_years xs ≡ true
exceptions_are_in_years zones d xs rise h = (exceptions_are_of_series zones d xs rise h).years

pub exceptions_are_short : (zones : List ZoneText) (d : Data) (xs : List Exception) → keys_rise (unwrap_or (object_at (codes "recurrenceOverrides") d) []) ≡ true
    → exceptions_in zones d ≡ Some xs → are_short xs ≡ true
exceptions_are_short zones d xs rise h = (exceptions_are_of_series zones d xs rise h).short

pub exceptions_are_distinct : (zones : List ZoneText) (d : Data) (xs : List Exception) → keys_rise (unwrap_or (object_at (codes "recurrenceOverrides") d) []) ≡ true
    → exceptions_in zones d ≡ Some xs → are_distinct xs ≡ true
exceptions_are_distinct zones d xs rise h = (exceptions_are_of_series zones d xs rise h).distinct

-- Where an event may have its overrides none is refused, so they aren't read only when out of memory.

none_refused : (zones : List ZoneText) (alone ps : List Pair) (xs : List Exception) → all_some (exception_in zones alone) ps ≡ Some xs → first_refused zones alone ps ≡ None
none_refused zones alone [] xs h = refl
none_refused zones alone (p ∷ ps) xs h =
    let parts = parts_of (exception_in zones alone p) (all_some (exception_in zones alone) ps) xs h in rw parts.first (none_refused zones alone ps parts.ys parts.others)

refused_by : (zones : List ZoneText) (alone ps : List Pair) (key : List ℕ) (found : Option (List Exception)) → all_some (exception_in zones alone) ps ≡ found → is_some found ≡ true
    → first_refused zones alone ps ≡ Some key → ⊥
refused_by zones alone ps key None e there h = cc
refused_by zones alone ps key (Some xs) e there h = let none = none_refused zones alone ps xs e in cc

only_memory_by : (zones : List ZoneText) (d : Data) (error : OverrideError) → (found : Option (List Pair)) → overrides_in d ≡ found
    → is_some (option_and_then (all_some (exception_in zones (single (members_in d)))) found) ≡ true → Reports error zones d → error ≡ NoMemory
only_memory_by zones d error None e there h = cc
only_memory_by zones d BadOverrides (Some ps) e there h = cc
only_memory_by zones d (BadOverride key) (Some ps) e there h =
    let refused : first_refused zones (single (members_in d)) ps ≡ Some key = sym (ap (option_and_then (first_refused zones (single (members_in d)))) e) ∙ h in
    absurd (refused_by zones (single (members_in d)) ps key _ refl there refused)
only_memory_by zones d NoMemory (Some ps) e there h = refl

pub only_memory : (zones : List ZoneText) (d : Data) (error : OverrideError) → bad_properties_of_event zones d ≡ [] → Reports error zones d → error ≡ NoMemory
only_memory zones d error none h = only_memory_by zones d error (overrides_in d) refl (has_exceptions zones d none) h
