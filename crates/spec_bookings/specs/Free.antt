-- Bookings of which no two occurrences cover the same second.
use Rattle.std.specs.Prelude.{◌≡◌, ℤ, Bool, false, ◌&&◌, ◌||◌, List, [], ◌∷◌}
use Rattle.spec_series.specs.Shared.{covers, covers_twice}
use Rattle.spec_bookings.specs.declared.booking.Booking.{Booking}
use Rattle.spec_bookings.specs.Clashes.{any_covers}

-- two different occurrences cover x, of one booking or of two
abbrev pub is_double : List Booking → ℤ → Bool
is_double [] x = false
is_double (b ∷ bs) x = (covers_twice b.series x || (covers b.series x && any_covers bs x)) || is_double bs x

-- no second of all days is covered twice
abbrev pub IsFree : List Booking → Type 0
IsFree bs = (x : ℤ) → is_double bs x ≡ false
