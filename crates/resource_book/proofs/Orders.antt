-- The place of a number among bookings.
use Rattle.std.proofs.Common.{◌≡◌, ℕ, zero, suc, ◌<◌, ◌==◌, nat_lt, true, false, List, [], ◌∷◌, ◌++◌, ◌+◌, ◌-◌, take, drop, length, length-drop, add-one, insert, remove, Some, slice_get, refl, ap, ◌∙◌, arith}
use Rattle.std.proofs.lemmas.Bool.Decides.{nat_tests}
use Rattle.std.proofs.lemmas.Option.{same_Some}
use Rattle.std.specs.List.{list_any}
use Rattle.std.proofs.lemmas.Bool.{or_right, or_parts, eq-eqb}
use Rattle.std.proofs.lemmas.List.{take_all}
use Rattle.spec_series.specs.declared.series.Series.{Series}
use Rattle.spec_bookings.specs.declared.booking.Booking.{Booking}
use Rattle.spec_bookings.specs.Bookings.{is_booked, without_booking, with_booking}

lt_true : (a b : ℕ) → a < b → nat_lt a b ≡ true
lt_true a b h = grind (arith, nat_tests)

pub without-none : (n : ℕ) (bs : List Booking) → is_booked n bs ≡ false → without_booking n bs ≡ bs
without-none n [] h = refl
without-none n (b ∷ bs) h =
    let p = or_parts (b.number == n) (is_booked n bs) h in
    rw (p.0) (ap (λ (cs : List Booking). b ∷ cs) (without-none n bs p.1))

pub without-at : (n : ℕ) (bs : List Booking) (i : ℕ) (b : Booking) → is_booked n (take i bs) ≡ false → slice_get bs i ≡ Some b → b.number ≡ n → without_booking n bs ≡ remove bs i
without-at n [] i b h e m = absurd (cc e)
without-at n (c ∷ cs) zero b h e m = rw (eq-eqb c.number n (ap (λ (y : Booking). y.number) (same_Some c b e) ∙ m)) refl
without-at n (c ∷ cs) (suc i) b h e m =
    let p = or_parts (c.number == n) (is_booked n (take i cs)) h in
    rw (p.0) (ap (λ (ds : List Booking). c ∷ ds) (without-at n cs i b p.1 e m))

pub is_booked-at : (n : ℕ) (bs : List Booking) (i : ℕ) (b : Booking) → slice_get bs i ≡ Some b → b.number ≡ n → is_booked n bs ≡ true
is_booked-at n [] i b e m = absurd (cc e)
is_booked-at n (c ∷ cs) zero b e m = rw (eq-eqb c.number n (ap (λ (y : Booking). y.number) (same_Some c b e) ∙ m)) refl
is_booked-at n (c ∷ cs) (suc i) b e m = or_right (c.number == n) (is_booked n cs) (is_booked-at n cs i b e m)

pub with-end : (n : ℕ) (s : Series) (bs : List Booking) → list_any (λ b. nat_lt n b.number) bs ≡ false → with_booking n s bs ≡ insert bs (length bs) (record { number = n; series = s })
with-end n s [] h = refl
with-end n s (b ∷ bs) h =
    let p = or_parts (nat_lt n b.number) (list_any (λ (c : Booking). nat_lt n c.number) bs) h in
    rw (p.0) (ap (λ (cs : List Booking). b ∷ cs) (with-end n s bs p.1))

pub with-at : (n : ℕ) (s : Series) (bs : List Booking) (i : ℕ) (b : Booking) → list_any (λ b. nat_lt n b.number) (take i bs) ≡ false → slice_get bs i ≡ Some b → n < b.number
    → with_booking n s bs ≡ insert bs i (record { number = n; series = s })
with-at n s [] i b h e m = absurd (cc e)
with-at n s (c ∷ cs) zero b h e m = rw (lt_true n c.number (rw (← ap (λ (y : Booking). y.number) (same_Some c b e)) at m)) refl
with-at n s (c ∷ cs) (suc i) b h e m =
    let p = or_parts (nat_lt n c.number) (list_any (λ (d : Booking). nat_lt n d.number) (take i cs)) h in
    rw (p.0) (ap (λ (ds : List Booking). c ∷ ds) (with-at n s cs i b p.1 e m))

-- all bookings but that at a place: those before it and those after it
pub both_sides : (bs : List Booking) (i : ℕ) → take i bs ++ take (length bs - (i + 1)) (drop (i + 1) bs) ≡ remove bs i
both_sides bs i =
    let e : take (length bs - (i + 1)) (drop (i + 1) bs) ≡ drop (i + 1) bs = take_all (length bs - (i + 1)) (drop (i + 1) bs) (omega (arith, length-drop (i + 1) bs)) in
    rw (e, add-one) refl
