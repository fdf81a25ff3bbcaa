-- Seconds that are covered twice, under bookings that come and go.
use Rattle.std.proofs.Common.{◌≡◌, ℕ, ℤ, ◌==◌, nat_lt, Bool, true, false, ◌&&◌, ◌||◌, List, [], ◌∷◌, refl, ap, ◌∙◌}
use Rattle.spec_series.specs.declared.series.Series.{Series}
use Rattle.spec_series.specs.Shared.{covers, covers_twice}
use Rattle.spec_bookings.specs.declared.booking.Booking.{Booking}
use Rattle.spec_bookings.specs.Bookings.{without_booking, with_booking}
use Rattle.spec_bookings.specs.Clashes.{any_covers, is_clash}
use Rattle.spec_bookings.specs.Free.{is_double}
use Rattle.spec_bookings.proofs.Tables.{by_test, or_false}

both_false : (a b : Bool) → a ≡ false → b ≡ false → (a || b) ≡ false
both_false true b h g = absurd (cc h)
both_false false b h g = g

and_less : (a b c : Bool) → (a && b) ≡ false → (b ≡ false → c ≡ false) → (a && c) ≡ false
and_less true b c h f = f h
and_less false b c h f = refl

-- the tables of one booking: it covers twice (t) or once (a), others cover (o), the rest is double (d)
parts : (t a o d : Bool) → ((t || (a && o)) || d) ≡ false → (t ≡ false) × ((a && o) ≡ false) × (d ≡ false)
parts true a o d h = absurd (cc h)
parts false true true d h = absurd (cc h)
parts false true false d h = (refl, refl, h)
parts false false o d h = (refl, refl, h)

whole : (t a o d : Bool) → t ≡ false → (a && o) ≡ false → d ≡ false → ((t || (a && o)) || d) ≡ false
whole true a o d h g k = absurd (cc h)
whole false true true d h g k = absurd (cc g)
whole false true false d h g k = k
whole false false o d h g k = k

none-without : (n : ℕ) (bs : List Booking) (x : ℤ) → any_covers bs x ≡ false → any_covers (without_booking n bs) x ≡ false
none-without n [] x h = refl
none-without n (b ∷ bs) x h =
    let p = or_false (covers b.series x) (any_covers bs x) h in
    by_test (λ (cs : List Booking). any_covers cs x ≡ false) (b.number == n) bs (b ∷ without_booking n bs)
    (λ e. p.1)
    (λ e. both_false (covers b.series x) (any_covers (without_booking n bs) x) p.0 (none-without n bs x p.1))

pub double-without : (n : ℕ) (bs : List Booking) (x : ℤ) → is_double bs x ≡ false → is_double (without_booking n bs) x ≡ false
double-without n [] x h = refl
double-without n (b ∷ bs) x h =
    let p = parts (covers_twice b.series x) (covers b.series x) (any_covers bs x) (is_double bs x) h in
    by_test (λ (cs : List Booking). is_double cs x ≡ false) (b.number == n) bs (b ∷ without_booking n bs)
    (λ e. p.2)
    (λ e.
    whole (covers_twice b.series x) (covers b.series x) (any_covers (without_booking n bs) x) (is_double (without_booking n bs) x) p.0
    (and_less (covers b.series x) (any_covers bs x) (any_covers (without_booking n bs) x) p.1 (none-without n bs x)) (double-without n bs x p.2))

-- with a booking more, x is covered where the new one or one of before covers it
any_with : (n : ℕ) (s : Series) (bs : List Booking) (x : ℤ) → any_covers (with_booking n s bs) x ≡ (covers s x || any_covers bs x)
any_with n s [] x = refl
any_with n s (b ∷ bs) x =
    by_test (λ (cs : List Booking). any_covers cs x ≡ (covers s x || any_covers (b ∷ bs) x)) (nat_lt n b.number) (record { number = n; series = s } ∷ b ∷ bs) (b ∷ with_booking n s bs)
    (λ e. refl)
    (λ e. ap (λ (t : Bool). covers b.series x || t) (any_with n s bs x) ∙ swap (covers b.series x) (covers s x) (any_covers bs x))
  where
    swap : (a b c : Bool) → (a || (b || c)) ≡ (b || (a || c))
    swap true true c = refl
    swap true false c = refl
    swap false b c = refl

-- what a clash table gives: the series covers twice (t) or once (a), others cover (o)
clash_parts : (t o a : Bool) → (t || (o && a)) ≡ false → (t ≡ false) × ((a && o) ≡ false)
clash_parts true o a h = absurd (cc h)
clash_parts false true true h = absurd (cc h)
clash_parts false true false h = (refl, refl)
clash_parts false false true h = (refl, refl)
clash_parts false false false h = (refl, refl)

-- b covers alone (b && o false) and the new one too (a && (b || o) false): b, with the new one among the others
with_new : (a b o : Bool) → (b && o) ≡ false → (a && (b || o)) ≡ false → (b && (a || o)) ≡ false
with_new true true o h g = absurd (cc g)
with_new true false o h g = refl
with_new false true o h g = h
with_new false false o h g = refl

rest_of : (t b o a : Bool) → (t || ((b || o) && a)) ≡ false → (t || (o && a)) ≡ false
rest_of true b o a h = absurd (cc h)
rest_of false true true a h = h
rest_of false true false a h = refl
rest_of false false o a h = h

pub double-with : (n : ℕ) (s : Series) (bs : List Booking) (x : ℤ) → is_double bs x ≡ false → is_clash bs s x ≡ false → is_double (with_booking n s bs) x ≡ false
double-with n s [] x h g =
    let q = clash_parts (covers_twice s x) false (covers s x) g in
    whole (covers_twice s x) (covers s x) false false q.0 q.1 refl
double-with n s (b ∷ bs) x h g =
    let p = parts (covers_twice b.series x) (covers b.series x) (any_covers bs x) (is_double bs x) h in
    let q = clash_parts (covers_twice s x) (any_covers (b ∷ bs) x) (covers s x) g in
    by_test (λ (cs : List Booking). is_double cs x ≡ false) (nat_lt n b.number) (record { number = n; series = s } ∷ b ∷ bs) (b ∷ with_booking n s bs)
    (λ e. whole (covers_twice s x) (covers s x) (any_covers (b ∷ bs) x) (is_double (b ∷ bs) x) q.0 q.1 h)
    (λ e.
    whole (covers_twice b.series x) (covers b.series x) (any_covers (with_booking n s bs) x) (is_double (with_booking n s bs) x) p.0
    (rw (any_with n s bs x) (with_new (covers s x) (covers b.series x) (any_covers bs x) p.1 q.1))
    (double-with n s bs x p.2 (rest_of (covers_twice s x) (covers b.series x) (any_covers bs x) (covers s x) g)))
