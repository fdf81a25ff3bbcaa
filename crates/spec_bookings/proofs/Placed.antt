-- Bookings with one more and with one less.
use Rattle.std.proofs.Common.{◌≡◌, ℕ, ◌<◌, ◌≤◌, ◌==◌, nat_lt, List, [], ◌∷◌, Bool, true, false, Option, Some, None, refl, ap, ◌∙◌, arith, if◌then◌else◌}
use Rattle.std.proofs.lemmas.Bool.Decides.{nat_tests}
use Rattle.spec_series.specs.declared.series.Series.{Series}
use Rattle.spec_bookings.specs.declared.booking.Booking.{Booking}
use Rattle.spec_bookings.specs.Bookings.{without_booking, with_booking}
use Rattle.spec_bookings.specs.Rising.{AreAbove, Rise, series_booked}
use Rattle.spec_bookings.specs.AfterChange.{with_booked}
use Rattle.spec_bookings.proofs.Tables.{by_test, same_number, number_same, other_number, lt_true}

pub above_less : (m n : ℕ) (bs : List Booking) → m ≤ n → AreAbove n bs → AreAbove m bs
above_less m n [] le h = tt
above_less m n (b ∷ bs) le h = (omega (arith, le, h.0), above_less m n bs le h.1)

above_without : (k n : ℕ) (bs : List Booking) → AreAbove k bs → AreAbove k (without_booking n bs)
above_without k n [] h = tt
above_without k n (b ∷ bs) h = by_test (AreAbove k) (b.number == n) bs (b ∷ without_booking n bs) (λ e. h.1) (λ e. (h.0, above_without k n bs h.1))

rise_without : (n : ℕ) (bs : List Booking) → Rise bs → Rise (without_booking n bs)
rise_without n [] h = tt
rise_without n (b ∷ bs) h = by_test Rise (b.number == n) bs (b ∷ without_booking n bs) (λ e. h.1) (λ e. (above_without b.number n bs h.0, rise_without n bs h.1))

above_with : (k n : ℕ) (s : Series) (bs : List Booking) → k < n → AreAbove k bs → AreAbove k (with_booking n s bs)
above_with k n s [] lt h = (lt, tt)
above_with k n s (b ∷ bs) lt h =
    by_test (AreAbove k) (nat_lt n b.number) (record { number = n; series = s } ∷ b ∷ bs) (b ∷ with_booking n s bs) (λ e. (lt, h)) (λ e. (h.0, above_with k n s bs lt h.1))

-- the first's number isn't that which isn't booked
first_other : (n : ℕ) (b : Booking) (bs : List Booking) → series_booked n (b ∷ bs) ≡ None → ((b.number == n) ≡ false) × (series_booked n bs ≡ None)
first_other n b bs h = by_cases (b.number == n) refl h
  where
    by_cases : (t : Bool) → (b.number == n) ≡ t → (if t then Some b.series else series_booked n bs) ≡ None → ((b.number == n) ≡ false) × (series_booked n bs ≡ None)
    by_cases true e h = absurd (cc h)
    by_cases false e h = (e, h)

rise_with : (n : ℕ) (s : Series) (bs : List Booking) → Rise bs → series_booked n bs ≡ None → Rise (with_booking n s bs)
rise_with n s [] h g = (tt, tt)
rise_with n s (b ∷ bs) h g =
    let p = first_other n b bs g in
    by_test Rise (nat_lt n b.number) (record { number = n; series = s } ∷ b ∷ bs) (b ∷ with_booking n s bs)
    (λ e. ((lt_true n b.number e, above_less n b.number bs (below e) h.0), h))
    (λ e. (above_with b.number n s bs (over p.0 e) h.0, rise_with n s bs h.1 p.1))
  where
    below : nat_lt n b.number ≡ true → n ≤ b.number
    below e = omega (arith, lt_true n b.number e)

    over : (b.number == n) ≡ false → nat_lt n b.number ≡ false → b.number < n
    over p e = grind (arith, nat_tests)

pub in_above : (m n : ℕ) (bs : List Booking) → m ≤ n → AreAbove n bs → series_booked m bs ≡ None
in_above m n [] le h = refl
in_above m n (b ∷ bs) le h = rw (other_number b.number m (λ e. omega (arith, e, le, h.0))) (in_above m n bs le h.1)

in_without_same : (n : ℕ) (bs : List Booking) → Rise bs → series_booked n (without_booking n bs) ≡ None
in_without_same n [] h = refl
in_without_same n (b ∷ bs) h =
    by_test (λ (cs : List Booking). series_booked n cs ≡ None) (b.number == n) bs (b ∷ without_booking n bs)
    (λ e. let m = same_number b.number n e in in_above n b.number bs (omega (arith, m)) h.0)
    (λ e. rw e (in_without_same n bs h.1))

in_without_other : (m n : ℕ) (bs : List Booking) → (n == m) ≡ false → series_booked m (without_booking n bs) ≡ series_booked m bs
in_without_other m n [] h = refl
in_without_other m n (b ∷ bs) h =
    by_test (λ (cs : List Booking). series_booked m cs ≡ series_booked m (b ∷ bs)) (b.number == n) bs (b ∷ without_booking n bs)
    (λ e. let same = same_number b.number n e in rw (same, h) refl)
    (λ e. ap (λ (o : Option Series). if b.number == m then Some b.series else o) (in_without_other m n bs h))

in_with_same : (n : ℕ) (s : Series) (bs : List Booking) → series_booked n bs ≡ None → series_booked n (with_booking n s bs) ≡ Some s
in_with_same n s [] h = rw (number_same n n refl) refl
in_with_same n s (b ∷ bs) h =
    let p = first_other n b bs h in
    by_test (λ (cs : List Booking). series_booked n cs ≡ Some s) (nat_lt n b.number) (record { number = n; series = s } ∷ b ∷ bs) (b ∷ with_booking n s bs)
    (λ e. rw (number_same n n refl) refl)
    (λ e. rw (p.0) (in_with_same n s bs p.1))

in_with_other : (m n : ℕ) (s : Series) (bs : List Booking) → (n == m) ≡ false → series_booked m (with_booking n s bs) ≡ series_booked m bs
in_with_other m n s [] h = rw h refl
in_with_other m n s (b ∷ bs) h =
    by_test (λ (cs : List Booking). series_booked m cs ≡ series_booked m (b ∷ bs)) (nat_lt n b.number) (record { number = n; series = s } ∷ b ∷ bs) (b ∷ with_booking n s bs)
    (λ e. rw h refl)
    (λ e. ap (λ (o : Option Series). if b.number == m then Some b.series else o) (in_with_other m n s bs h))

-- an event is booked again
pub rise_again : (id : ℕ) (o : Option Series) (bs : List Booking) → Rise bs → Rise (with_booked id o (without_booking id bs))
rise_again id None bs h = rise_without id bs h
rise_again id (Some s) bs h = rise_with id s (without_booking id bs) (rise_without id bs h) (in_without_same id bs h)

pub in_again_same : (id : ℕ) (o : Option Series) (bs : List Booking) → Rise bs → series_booked id (with_booked id o (without_booking id bs)) ≡ o
in_again_same id None bs h = in_without_same id bs h
in_again_same id (Some s) bs h = in_with_same id s (without_booking id bs) (in_without_same id bs h)

pub in_again_other : (m id : ℕ) (o : Option Series) (bs : List Booking) → (id == m) ≡ false → series_booked m (with_booked id o (without_booking id bs)) ≡ series_booked m bs
in_again_other m id None bs e = in_without_other m id bs e
in_again_other m id (Some s) bs e = in_with_other m id s (without_booking id bs) e ∙ in_without_other m id bs e
