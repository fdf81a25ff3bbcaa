-- The first second that a series shares with bookings.
use Rattle.std.specs.Prelude.{◌≡◌, ◌<◌, ◌^◌, ℕ, ℤ, int_lt, unsigned_abs, Bool, true, ◌&&◌, List, Option, Some, None, MatchOption, if◌then◌else◌}
use Rattle.spec_time.specs.Walls.{day_of_wall, second_of_wall}
use Rattle.spec_series.specs.declared.series.Series.{Series}
use Rattle.spec_series.specs.Shared.{covers}
use Rattle.rule_expand.specs.Least.{IsLeast}
use Rattle.spec_bookings.specs.declared.booking.Booking.{Booking}
use Rattle.spec_bookings.specs.declared.clash.Clash.{Clash}
use Rattle.spec_bookings.specs.Clashes.{any_covers, first_covering}
use Rattle.resource_book.specs.declared.check.SharedSecond.{SharedSecond}

-- a booking and the series cover x
abbrev pub is_shared_with : List Booking → Series → ℤ → Bool
is_shared_with bs s x = any_covers bs x && covers s x

-- the second is the least that passes a test, with the first of the bookings that covers it
pub record IsEarliest (p : ℤ → Bool) (bs : List Booking) (m : SharedSecond) : Type 0 where
  pub least : IsLeast (λ x. p x ≡ true) m.at
  pub first : m.with ≡ first_covering bs m.at
  pub near : unsigned_abs m.at < 2 ^ 57

-- that second, or None where none passes
abbrev pub IsEarliestOf : (ℤ → Bool) → List Booking → Option SharedSecond → Type 0
IsEarliestOf p bs o = MatchOption o ((x : ℤ) → p x ≡ true → ⊥) (IsEarliest p bs)

abbrev pub earlier_at : SharedSecond → ℤ → Option ℕ → SharedSecond
earlier_at m x n = if int_lt x m.at then record { with = n; at = x } else m

-- the earlier of a shared second and another one, and the shared one where they are the same
abbrev pub earlier_of : Option SharedSecond → Option ℤ → Option ℕ → Option SharedSecond
earlier_of best None n = best
earlier_of None (Some x) n = Some (record { with = n; at = x })
earlier_of (Some m) (Some x) n = Some (earlier_at m x n)

abbrev pub clash_of : SharedSecond → Clash
clash_of m = record { with = m.with; day = day_of_wall m.at; second = second_of_wall m.at }
