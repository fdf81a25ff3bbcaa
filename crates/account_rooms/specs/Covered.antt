-- Seconds that bookings cover twice, as a fact over occurrences.
use Rattle.std.specs.Prelude.{◌≡◌, ℕ, ℤ, List, Some, slice_get, true}
use Rattle.spec_history.specs.declared.entry.Change.{Change}
use Rattle.spec_bookings.specs.BookedResources.{bookings_of}
use Rattle.spec_bookings.specs.Resources.{is_resource}
use Rattle.spec_bookings.specs.declared.booking.Booking.{Booking}
use Rattle.spec_series.specs.Occurrences.{Covers, IsOccurrence}
use Rattle.spec_series.specs.declared.occurrence.Occurrence.{Occurrence}
use Rattle.spec_site.specs.TimeZones.{ZoneText}

-- an occurrence of one of the bookings covers x, and so does one that differs from it: of another booking, or with another recurrence id
abbrev pub IsCoveredTwice : List Booking → ℤ → Type 0
IsCoveredTwice bs x =
    (i : ℕ) × (j : ℕ) × (a : Booking) × (b : Booking) × (o : Occurrence) × (p : Occurrence) × (slice_get bs i ≡ Some a) × (slice_get bs j ≡ Some b)
    × IsOccurrence a.series o × IsOccurrence b.series p × ((i ≡ j) × (o.rid ≡ p.rid) → ⊥) × Covers o x × Covers p x

-- no second of a live resource calendar is covered by two different occurrences of its bookings, over all days without end
abbrev pub AreCoveredOnce : List ZoneText → List Change → Type 0
AreCoveredOnce zones cs = (n : ℕ) (x : ℤ) → is_resource cs n ≡ true → IsCoveredTwice (bookings_of zones cs n) x → ⊥
