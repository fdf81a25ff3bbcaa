-- Bookings in order of their numbers.
use Rattle.std.specs.Prelude.{ℕ, ◌<◌, ◌==◌, List, [], ◌∷◌, Option, Some, None, if◌then◌else◌}
use Rattle.spec_series.specs.declared.series.Series.{Series}
use Rattle.spec_bookings.specs.declared.booking.Booking.{Booking}

-- all numbers are greater than n
abbrev pub AreAbove : ℕ → List Booking → Type 0
AreAbove n [] = Unit {0}
AreAbove n (b ∷ bs) = (n < b.number) × AreAbove n bs

-- each number is less than all after it
abbrev pub Rise : List Booking → Type 0
Rise [] = Unit {0}
Rise (b ∷ bs) = AreAbove b.number bs × Rise bs

-- the series that is booked under a number
abbrev pub series_booked : ℕ → List Booking → Option Series
series_booked n [] = None
series_booked n (b ∷ bs) = if b.number == n then Some b.series else series_booked n bs
