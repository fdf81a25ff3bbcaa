-- The first clash of an event in its resources.
use Rattle.std.proofs.Common.{◌≡◌, ◌∙◌, ℕ, zero, suc, ◌<◌, ◌==◌, ◌||◌, ℤ, ◌≤ℤ◌, Bool, true, false, cond, List, [], ◌∷◌, slice_get, filter, Option, Some, None, MatchOption, option_map, refl, sym, ap, subst, arith}
use Rattle.std.specs.Option.{option_or}
use Rattle.std.proofs.lemmas.Bool.{false≢true}
use Rattle.std.proofs.lemmas.Option.{same_Some}
use Rattle.jiff_core.proofs.SignedLemmas.{signed_arith}
use Rattle.account_rooms.proofs.Others.{clash_is_twice, first_other, twice_is_clash}
use Rattle.account_rooms.proofs.Seconds.{least_clash_second, whole}
use Rattle.account_rooms.specs.Twice.{IsClashIn, IsFirstClash, IsFirstOther, WouldCoverTwice}
use Rattle.spec_events.specs.Events.{names_calendar}
use Rattle.spec_history.specs.History.{ids_at}
use Rattle.spec_history.specs.Pages.{is_in}
use Rattle.spec_history.specs.declared.entry.Change.{Change}
use Rattle.spec_history.specs.declared.entry.Kind.TheVariants.{Calendar}
use Rattle.spec_json.specs.Data.{Data}
use Rattle.spec_bookings.proofs.Numbered.{in_filter, numbered_if_live, resource_is_live}
use Rattle.spec_bookings.specs.BookedResources.{first_clash_in, other_bookings}
use Rattle.spec_bookings.specs.Resources.{is_resource, resources_at, resources_of}
use Rattle.spec_bookings.specs.Clashes.{IsClash, clash_at, first_clash, first_covering, is_clash}
use Rattle.spec_bookings.specs.declared.clash.Clash.{Clash}
use Rattle.spec_series.specs.Shared.{first_second}
use Rattle.spec_series.specs.declared.series.Series.{Series}
use Rattle.spec_site.specs.TimeZones.{ZoneText}
use Rattle.spec_bookings.proofs.Tables.{same_number}
use Rattle.rule_expand.specs.Least.{IsLeastOf}

module _ (zones : List ZoneText) (cs : List Change) (event : ℕ) (s : Series) where
  -- ---- In one calendar.

  abbrev NoneIn : ℕ → Type 0
  NoneIn calendar = (x : ℤ) → WouldCoverTwice zones cs event s calendar x → ⊥

  clash_by : (calendar : ℕ) (o : Option ℤ) → IsLeastOf (IsClash (other_bookings zones cs event calendar) s) o
      → MatchOption (option_map (clash_at (other_bookings zones cs event calendar)) o) (NoneIn calendar) (IsClashIn zones cs event s calendar)
  clash_by calendar None h = λ x twice. h x (twice_is_clash zones cs event calendar s x twice)
  clash_by calendar (Some x) h = record {
    twice = subst (WouldCoverTwice zones cs event s calendar) (sym (whole x)) (clash_is_twice zones cs event calendar s x h.holds);
    least = λ y twice. subst (λ (z : ℤ). z ≤ℤ y) (sym (whole x)) (h.least y (twice_is_clash zones cs event calendar s y twice));
    of_day = omega (arith, signed_arith);
    first = subst (λ (y : ℤ). IsFirstOther zones cs event calendar y (first_covering (other_bookings zones cs event calendar) x)) (sym (whole x)) (first_other zones cs event calendar x);
  }

  clash_here : (calendar : ℕ) → MatchOption (first_clash (other_bookings zones cs event calendar) s) (NoneIn calendar) (IsClashIn zones cs event s calendar)
  clash_here calendar =
      let bs = other_bookings zones cs event calendar in
      clash_by calendar (first_second (is_clash bs s)) (least_clash_second bs s)

  -- ---- In the first of some.

  abbrev NoneInAny : List ℕ → Type 0
  NoneInAny ns = (k calendar : ℕ) (x : ℤ) → slice_get ns k ≡ Some calendar → WouldCoverTwice zones cs event s calendar x → ⊥

  abbrev pub FirstIn : List ℕ → Option (ℕ × Clash) → Type 0
  FirstIn ns o = MatchOption o (NoneInAny ns) (λ q. IsFirstClash zones cs event s ns q.0 q.1)

  one_more : (n : ℕ) (ns : List ℕ) (o : Option Clash) (rest : Option (ℕ × Clash)) → MatchOption o (NoneIn n) (IsClashIn zones cs event s n) → FirstIn ns rest
      → FirstIn (n ∷ ns) (option_or (option_map (λ clash. (n, clash)) o) rest)
  one_more n ns (Some clash) rest h g = record { place = 0; here = refl; told = h; before = λ k earlier x lt at twice. omega (arith, lt) }
  one_more n ns None None h g = none_at
    where
      none_at : NoneInAny (n ∷ ns)
      none_at zero calendar x e twice = h x (subst (λ (m : ℕ). WouldCoverTwice zones cs event s m x) (sym (same_Some n calendar e)) twice)
      none_at (suc k) calendar x e twice = g k calendar x e twice
  one_more n ns None (Some q) h g = record { place = suc g.place; here = g.here; told = g.told; before = none_before }
    where
      none_before : (k earlier : ℕ) (x : ℤ) → k < suc g.place → slice_get (n ∷ ns) k ≡ Some earlier → WouldCoverTwice zones cs event s earlier x → ⊥
      none_before zero earlier x lt e twice = h x (subst (λ (m : ℕ). WouldCoverTwice zones cs event s m x) (sym (same_Some n earlier e)) twice)
      none_before (suc k) earlier x lt e twice = g.before k earlier x (omega (arith, lt)) e twice

  pub first_of_all : (ns : List ℕ) → FirstIn ns (first_clash_in zones cs event s ns)
  first_of_all [] = λ k calendar x e twice. cc e
  first_of_all (n ∷ ns) = one_more n ns (first_clash (other_bookings zones cs event n) s) (first_clash_in zones cs event s ns) (clash_here n) (first_of_all ns)

-- ---- Which resources an event books.

placed : (ns : List ℕ) (n : ℕ) → is_in ns n ≡ true → (k : ℕ) × (slice_get ns k ≡ Some n)
placed [] n h = absurd (false≢true h)
placed (m ∷ ns) n h = by_cases (m == n) refl h (λ g. placed ns n g)
  where
    by_cases : (t : Bool) → (m == n) ≡ t → (t || is_in ns n) ≡ true → (is_in ns n ≡ true → (k : ℕ) × (slice_get ns k ≡ Some n)) → (k : ℕ) × (slice_get (m ∷ ns) k ≡ Some n)
    by_cases true e g rest = (0, ap Some (same_number m n e))
    by_cases false e g rest = let more = rest g in (suc more.0, more.1)

-- what stands in a filtered list passes, and stands in the list
abbrev Passes : (ℕ → Bool) → List ℕ → ℕ → Type 0
Passes p ns n = (p n ≡ true) × ((j : ℕ) × (slice_get ns j ≡ Some n))

first_passes : (p : ℕ → Bool) (m : ℕ) (ns : List ℕ) (n : ℕ) (t : Bool) (k : ℕ) → p m ≡ t → slice_get (cond t (m ∷ filter p ns) (filter p ns)) k ≡ Some n → ((i : ℕ) → slice_get (filter p ns) i ≡ Some n → Passes p ns n) → Passes p (m ∷ ns) n
first_passes p m ns n true zero e h rest = let same = same_Some m n h in (ap p (sym same) ∙ e, (0, h))
first_passes p m ns n true (suc k) e h rest = let more = rest k h in (more.0, (suc more.1.0, more.1.1))
first_passes p m ns n false k e h rest = let more = rest k h in (more.0, (suc more.1.0, more.1.1))

passes : (p : ℕ → Bool) (ns : List ℕ) (k n : ℕ) → slice_get (filter p ns) k ≡ Some n → Passes p ns n
passes p [] k n h = absurd (cc h)
passes p (m ∷ ns) k n h = first_passes p m ns n (p m) k refl h (λ i g. passes p ns i n g)

-- an event's resources are the live resource calendars that it is in
pub resource_at : (cs : List Change) (d : Data) (n : ℕ) → is_resource cs n ≡ true → names_calendar n d ≡ true → (k : ℕ) × (slice_get (resources_of cs d) k ≡ Some n)
resource_at cs d n h there =
    let numbered = numbered_if_live cs Calendar n None [] (λ e. absurd (false≢true e)) (resource_is_live cs n h) in
    placed (resources_of cs d) n (in_filter (λ m. names_calendar m d) (resources_at cs) n there (in_filter (is_resource cs) (ids_at cs Calendar) n h numbered))

pub at_resource : (cs : List Change) (d : Data) (k n : ℕ) → slice_get (resources_of cs d) k ≡ Some n → (is_resource cs n ≡ true) × (names_calendar n d ≡ true)
at_resource cs d k n h =
    let there = passes (λ m. names_calendar m d) (resources_at cs) k n h in
    ((passes (is_resource cs) (ids_at cs Calendar) there.1.0 n there.1.1).0, there.0)
