-- The bookings of others in a calendar are the other live events that are in it.
use Rattle.std.proofs.Common.{◌≡◌, ◌∙◌, ◌⊎◌, ℕ, zero, suc, ◌<◌, ◌≤◌, ◌==◌, ℤ, inl, inr, Bool, true, false, List, [], ◌∷◌, slice_get, Option, Some, None, MatchOption, refl, sym, ap, arith, if◌then◌else◌}
use Rattle.std.proofs.lemmas.Option.{same_Some}
use Rattle.account_rooms.specs.Twice.{IsCoveredBy, IsFirstOther, Occupies, OtherOccupies, WouldCoverTwice}
use Rattle.spec_events.specs.Events.{names_calendar}
use Rattle.spec_history.specs.History.{live_object}
use Rattle.spec_history.specs.declared.entry.Change.{Change}
use Rattle.spec_history.specs.declared.entry.Kind.TheVariants.{Event}
use Rattle.spec_json.specs.TreeData.{data_of}
use Rattle.spec_json.specs.declared.tree.Tree.{Tree}
use Rattle.spec_recurrence.specs.SeriesOf.{series_in}
use Rattle.spec_bookings.specs.BookedResources.{booked_in, bookings_of, other_bookings}
use Rattle.spec_bookings.specs.Clashes.{IsClash, first_covering}
use Rattle.spec_bookings.specs.declared.booking.Booking.{Booking}
use Rattle.spec_series.specs.Shared.{covers}
use Rattle.spec_series.specs.declared.series.Series.{Series}
use Rattle.spec_site.specs.TimeZones.{ZoneText}
use Rattle.residue_clash.proofs.Covering.{covers_is}
use Rattle.spec_bookings.proofs.Listed.{live_booked, live_rise}
use Rattle.spec_bookings.proofs.Placed.{in_again_other, in_again_same, rise_again}
use Rattle.spec_bookings.proofs.Tables.{by_test, number_same, other_number, same_number}
use Rattle.spec_bookings.specs.HistoryBookings.{booked_by}
use Rattle.spec_bookings.specs.Rising.{AreAbove, Rise, series_booked}

-- ---- Lists of bookings.

above_at : (n : ℕ) (bs : List Booking) (k : ℕ) (b : Booking) → AreAbove n bs → slice_get bs k ≡ Some b → n < b.number
above_at n [] k b h e = absurd (cc e)
above_at n (c ∷ cs) zero b h e = rw (← same_Some c b e) h.0
above_at n (c ∷ cs) (suc k) b h e = above_at n cs k b h.1 e

booked_at : (bs : List Booking) (k : ℕ) (b : Booking) → Rise bs → slice_get bs k ≡ Some b → series_booked b.number bs ≡ Some b.series
booked_at [] k b h e = absurd (cc e)
booked_at (c ∷ cs) zero b h e = let same = same_Some c b e in rw (number_same c.number b.number (ap (λ (d : Booking). d.number) same)) (ap (λ (d : Booking). Some d.series) same)
booked_at (c ∷ cs) (suc k) b h e =
    let lt = above_at c.number cs k b h.0 e in
    rw (other_number c.number b.number (λ same. omega (arith, same, lt))) (booked_at cs k b h.1 e)

abbrev BookingAt : List Booking → ℕ → Series → Type 0
BookingAt bs n s = (k : ℕ) × (slice_get bs k ≡ Some (record { number = n; series = s }))

first_or_rest : (b : Booking) (bs : List Booking) (n : ℕ) (s : Series) (t : Bool) → (b.number == n) ≡ t → (if t then Some b.series else series_booked n bs) ≡ Some s → (series_booked n bs ≡ Some s → BookingAt bs n s)
    → BookingAt (b ∷ bs) n s
first_or_rest b bs n s true e h rest = (0, λ i. Some (record { number = same_number b.number n e i; series = same_Some b.series s h i }))
first_or_rest b bs n s false e h rest = let more = rest h in (suc more.0, more.1)

at_booked : (bs : List Booking) (n : ℕ) (s : Series) → series_booked n bs ≡ Some s → BookingAt bs n s
at_booked [] n s h = absurd (cc h)
at_booked (b ∷ bs) n s h = first_or_rest b bs n s (b.number == n) refl h (λ g. at_booked bs n s g)

-- a booking of this number covers x
abbrev pub NumberCovers : List Booking → ℤ → ℕ → Type 0
NumberCovers bs x n = (s : Series) × (BookingAt bs n s × (covers s x ≡ true))

-- the least number of those that cover x
abbrev pub IsLeastNumber : List Booking → ℤ → Option ℕ → Type 0
IsLeastNumber bs x o = MatchOption o ((n : ℕ) → NumberCovers bs x n → ⊥) (λ n. NumberCovers bs x n × ((m : ℕ) → NumberCovers bs x m → n ≤ m))

first_or_later : (b : Booking) (bs : List Booking) (x : ℤ) (n : ℕ) → NumberCovers (b ∷ bs) x n → ((b.number ≡ n) × (covers b.series x ≡ true)) ⊎ NumberCovers bs x n
first_or_later b bs x n (s, ((zero, e), over)) =
    let same = same_Some b (record { number = n; series = s }) e in
    inl (ap (λ (d : Booking). d.number) same, ap (λ (d : Booking). covers d.series x) same ∙ over)
first_or_later b bs x n (s, ((suc k, e), over)) = inr (s, ((k, e), over))

later_covers : (b : Booking) (bs : List Booking) (x : ℤ) (n : ℕ) → NumberCovers bs x n → NumberCovers (b ∷ bs) x n
later_covers b bs x n (s, (at, over)) = (s, ((suc at.0, at.1), over))

not_first : (b : Booking) (bs : List Booking) (x : ℤ) (o : Option ℕ) → covers b.series x ≡ false → IsLeastNumber bs x o → IsLeastNumber (b ∷ bs) x o
not_first b bs x None free h = λ n c. elim (first_or_later b bs x n c) [ inl here ↦ cc (here.1, free) | inr more ↦ h n more ]
not_first b bs x (Some n) free h = (later_covers b bs x n h.0, λ m c. elim (first_or_later b bs x m c) [ inl here ↦ absurd (cc (here.1, free)) | inr more ↦ h.1 m more ])

first_is_least : (bs : List Booking) (x : ℤ) → Rise bs → IsLeastNumber bs x (first_covering bs x)
first_is_least [] x h = λ n (s, (at, over)). cc at.1
first_is_least (b ∷ bs) x h =
    by_test (IsLeastNumber (b ∷ bs) x) (covers b.series x) (Some b.number) (first_covering bs x)
    (λ over. (
      (b.series, ((0, refl), over)),
      λ m c. elim (first_or_later b bs x m c) [
        | inl here ↦ omega (arith, here.0)
        | inr more ↦ let lt = above_at b.number bs more.1.0.0 (record { number = m; series = more.0 }) h.0 more.1.0.1 in omega (arith, lt)
      ],
    ))
    (λ free. not_first b bs x (first_covering bs x) free (first_is_least bs x h.1))

-- ---- The other events.

by_both : (b : Bool) (o : Option Series) (t : Series) → (if b then o else None) ≡ Some t → (b ≡ true) × (o ≡ Some t)
by_both true o t h = (refl, h)
by_both false o t h = absurd (cc h)

module _ (zones : List ZoneText) (cs : List Change) (event calendar : ℕ) where
  abbrev others : List Booking
  others = other_bookings zones cs event calendar

  abbrev all_rise : Rise (bookings_of zones cs calendar)
  all_rise = live_rise (booked_in zones calendar) cs

  others_rise : Rise others
  others_rise = rise_again event None (bookings_of zones cs calendar) all_rise

  -- what is booked of a number is the series of the other live event
  booked_to : (n : ℕ) (t : Series) → series_booked n others ≡ Some t → ((n ≡ event) → ⊥) × (booked_by (booked_in zones calendar) (live_object cs Event n) ≡ Some t)
  booked_to n t h = (other, sym (live_booked (booked_in zones calendar) cs n) ∙ sym (in_again_other n event None (bookings_of zones cs calendar) (other_number event n (λ e. other (sym e)))) ∙ h)
    where
      other : (n ≡ event) → ⊥
      other e =
          let gone = in_again_same event None (bookings_of zones cs calendar) all_rise in
          let there = ap (λ (m : ℕ). series_booked m others) (sym e) ∙ h in
          cc (gone, there)

  to_booked : (n : ℕ) (t : Series) → ((n ≡ event) → ⊥) → booked_by (booked_in zones calendar) (live_object cs Event n) ≡ Some t → series_booked n others ≡ Some t
  to_booked n t other h = in_again_other n event None (bookings_of zones cs calendar) (other_number event n (λ e. other (sym e))) ∙ live_booked (booked_in zones calendar) cs n ∙ h

  live_to : (n : ℕ) (x : ℤ) (t : Series) (o : Option Tree) → live_object cs Event n ≡ o → booked_by (booked_in zones calendar) o ≡ Some t → IsCoveredBy t x → Occupies zones cs calendar n x
  live_to n x t None e h c = absurd (cc h)
  live_to n x t (Some tree) e h c =
      let both = by_both (names_calendar calendar (data_of tree)) (series_in zones (data_of tree)) t h in
      record { event = tree; live = e; there = both.0; series = t; valid = both.1; covered = c }

  occupies_to : (n : ℕ) (x : ℤ) → NumberCovers others x n → OtherOccupies zones cs event calendar n x
  occupies_to n x (t, (at, over)) =
      let booked = booked_to n t (booked_at others at.0 (record { number = n; series = t }) others_rise at.1) in
      (booked.0, live_to n x t (live_object cs Event n) refl booked.1 ((covers_is t x).0 over))

  to_occupies : (n : ℕ) (x : ℤ) → OtherOccupies zones cs event calendar n x → NumberCovers others x n
  to_occupies n x (other, h) =
      let books : booked_by (booked_in zones calendar) (live_object cs Event n) ≡ Some h.series = rw (h.live, h.there) h.valid in
      (h.series, (at_booked others n h.series (to_booked n h.series other books), (covers_is h.series x).1 h.covered))

  -- a clash with the bookings of others is a second that would be covered twice
  pub clash_is_twice : (s : Series) (x : ℤ) → IsClash others s x → WouldCoverTwice zones cs event s calendar x
  clash_is_twice s x (inl own) = inl own
  clash_is_twice s x (inr (k, b, at, (o, p, of_b, of_s, over_o, over_p))) =
      inr ((p, (of_s, over_p)), (b.number, occupies_to b.number x (b.series, ((k, at), (covers_is b.series x).1 (o, (of_b, over_o))))))

  pub twice_is_clash : (s : Series) (x : ℤ) → WouldCoverTwice zones cs event s calendar x → IsClash others s x
  twice_is_clash s x (inl own) = inl own
  twice_is_clash s x (inr ((p, (of_s, over_p)), (n, occupied))) =
      let c = to_occupies n x occupied in
      let o = (covers_is c.0 x).0 c.1.1 in
      inr (c.1.0.0, record { number = n; series = c.0 }, c.1.0.1, (o.0, p, o.1.0, of_s, o.1.1, over_p))

  first_by : (x : ℤ) (o : Option ℕ) → IsLeastNumber others x o → IsFirstOther zones cs event calendar x o
  first_by x None h = λ n occupied. h n (to_occupies n x occupied)
  first_by x (Some n) h = (occupies_to n x h.0, λ m occupied. h.1 m (to_occupies m x occupied))

  -- the first booking that covers a second is of the first other event that does
  pub first_other : (x : ℤ) → IsFirstOther zones cs event calendar x (first_covering others x)
  first_other x = first_by x (first_covering others x) (first_is_least others x others_rise)
