-- The bookings of a resource, in order of the numbers of their events, which is the order of creation.
use Rattle.std.specs.Prelude.{ℕ, ◌==◌, nat_lt, Bool, List, [], ◌∷◌, Option, Some, None, if◌then◌else◌}
use Rattle.std.specs.List.{list_any}
use Rattle.spec_series.specs.declared.series.Series.{Series}
use Rattle.spec_bookings.specs.declared.booking.Booking.{Booking}

abbrev pub is_booked : ℕ → List Booking → Bool
is_booked n bs = list_any (λ b. b.number == n) bs

-- without the booking of this number
abbrev pub without_booking : ℕ → List Booking → List Booking
without_booking n [] = []
without_booking n (b ∷ bs) = if b.number == n then bs else b ∷ without_booking n bs

-- with one more, before those of greater numbers
abbrev pub with_booking : ℕ → Series → List Booking → List Booking
with_booking n s [] = record { number = n; series = s } ∷ []
with_booking n s (b ∷ bs) = if nat_lt n b.number then record { number = n; series = s } ∷ b ∷ bs else b ∷ with_booking n s bs

-- without the excepted event's, if one is excepted
abbrev pub but : Option ℕ → List Booking → List Booking
but None bs = bs
but (Some n) bs = without_booking n bs
