-- How many bookings there are with one more and with one less.
use Rattle.std.proofs.Common.{◌≡◌, ◌≤◌, ◌+◌, ◌==◌, nat_lt, ℕ, List, [], ◌∷◌, length, arith, refl}
use Rattle.spec_bookings.specs.Bookings.{with_booking, without_booking}
use Rattle.spec_bookings.specs.declared.booking.Booking.{Booking}
use Rattle.spec_series.specs.declared.series.Series.{Series}
use Rattle.spec_bookings.proofs.Tables.{by_test}

pub length-without : (n : ℕ) (bs : List Booking) → length (without_booking n bs) ≤ length bs
length-without n [] = omega arith
length-without n (b ∷ bs) = by_test (λ (cs : List Booking). length cs ≤ length (b ∷ bs)) (b.number == n) bs (b ∷ without_booking n bs) (λ e. omega arith) (λ e. omega (arith, length-without n bs))

pub length-with : (n : ℕ) (s : Series) (bs : List Booking) → length (with_booking n s bs) ≡ length bs + 1
length-with n s [] = refl
length-with n s (b ∷ bs) =
    by_test (λ (cs : List Booking). length cs ≡ length (b ∷ bs) + 1) (nat_lt n b.number) (record { number = n; series = s } ∷ b ∷ bs) (b ∷ with_booking n s bs)
    (λ e. omega arith)
    (λ e. omega (arith, length-with n s bs))
