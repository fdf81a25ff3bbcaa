-- Which seconds a proposed series would make covered twice in a resource, and the first of them.
use Rattle.std.specs.Prelude.{◌≡◌, ◌⊎◌, ℕ, ℤ, Bool, false, ◌&&◌, ◌||◌, List, [], ◌∷◌, slice_get, Option, Some, None, option_map, if◌then◌else◌}
use Rattle.std.specs.List.{list_any}
use Rattle.spec_time.specs.Walls.{day_of_wall, second_of_wall, wall_at}
use Rattle.spec_series.specs.declared.series.Series.{Series}
use Rattle.spec_series.specs.Shared.{IsShared, IsSelfShared, covers, covers_twice, first_second}
use Rattle.spec_bookings.specs.declared.booking.Booking.{Booking}
use Rattle.spec_bookings.specs.declared.clash.Clash.{Clash}

-- As facts over occurrences.

-- an occurrence of the proposed series covers x, and so does a different one, of the series itself or of a booking
abbrev pub IsClash : List Booking → Series → ℤ → Type 0
IsClash bs s x = IsSelfShared s x ⊎ ((k : ℕ) × (b : Booking) × (slice_get bs k ≡ Some b) × IsShared b.series s x)

-- As tests.

-- a booking covers x
abbrev pub any_covers : List Booking → ℤ → Bool
any_covers bs x = list_any (λ b. covers b.series x) bs

abbrev pub is_clash : List Booking → Series → ℤ → Bool
is_clash bs s x = covers_twice s x || (any_covers bs x && covers s x)

-- no second of all days is such a one
abbrev pub IsClear : List Booking → Series → Type 0
IsClear bs s = (x : ℤ) → is_clash bs s x ≡ false

-- The first clash.

-- the number of the first booking that covers x
abbrev pub first_covering : List Booking → ℤ → Option ℕ
first_covering [] x = None
first_covering (b ∷ bs) x = if covers b.series x then Some b.number else first_covering bs x

-- the clash at a second
abbrev pub clash_at : List Booking → ℤ → Clash
clash_at bs x = record { with = first_covering bs x; day = day_of_wall x; second = second_of_wall x }

-- the second of a clash
abbrev pub second_of : Clash → ℤ
second_of c = wall_at c.day c.second

-- the clash at the first second that is one, if any is
abbrev pub first_clash : List Booking → Series → Option Clash
first_clash bs s = option_map (clash_at bs) (first_second (is_clash bs s))
