-- A resource of which no second is covered twice takes each of its bookings beside some of the others.
use Rattle.std.proofs.Common.{◌≤◌, length, ◌≡◌, ◌∙◌, ◌<◌, ◌==◌, ◌&&◌, ◌||◌, ℕ, ℤ, List, [], ◌∷◌, Bool, true, false, Some, None, arith, refl, sym, ap, subst, if◌then◌else◌}
use Rattle.std.proofs.lemmas.Bool.{false≢true}
use Rattle.account_rooms.proofs.Counts.{length-with}
use Rattle.spec_bookings.proofs.Placed.{in_again_other, in_again_same, rise_again}
use Rattle.spec_bookings.proofs.Tables.{number_same, or_false, other_number, same_number}
use Rattle.spec_bookings.specs.Bookings.{with_booking, without_booking}
use Rattle.spec_bookings.specs.Clashes.{IsClear, any_covers}
use Rattle.spec_bookings.specs.Free.{IsFree, is_double}
use Rattle.spec_bookings.specs.Rising.{AreAbove, Rise, series_booked}
use Rattle.spec_bookings.specs.declared.booking.Booking.{Booking}
use Rattle.spec_series.specs.Shared.{covers, covers_twice}
use Rattle.spec_series.specs.declared.series.Series.{Series}

same_some : (s t : Series) → Some s ≡ Some t → s ≡ t
same_some s t e = cc e

not_none : (s : Series) → None ≡ Some s → ⊥
not_none s h = cc h

or_true : (b : Bool) → (b || true) ≡ true
or_true true = refl
or_true false = refl

-- ---- Seconds that are covered.

any_of : (bs : List Booking) (m : ℕ) (r : Series) (x : ℤ) → series_booked m bs ≡ Some r → covers r x ≡ true → any_covers bs x ≡ true
any_of [] m r x h c = absurd (not_none r h)
any_of (b ∷ bs) m r x h c = by_test (b.number == m) h (λ e. any_of bs m r x e c)
  where
    by_test : (t : Bool) → (if t then Some b.series else series_booked m bs) ≡ Some r → (series_booked m bs ≡ Some r → any_covers bs x ≡ true) → (covers b.series x || any_covers bs x) ≡ true
    by_test true e rest = ap (λ s. covers s x || any_covers bs x) (same_some b.series r e) ∙ ap (λ t. t || any_covers bs x) c
    by_test false e rest = ap (λ t. covers b.series x || t) (rest e) ∙ or_true (covers b.series x)

twice_of : (bs : List Booking) (n : ℕ) (s : Series) (x : ℤ) → series_booked n bs ≡ Some s → covers_twice s x ≡ true → is_double bs x ≡ true
twice_of [] n s x h c = absurd (not_none s h)
twice_of (b ∷ bs) n s x h c = by_test (b.number == n) h (λ e. twice_of bs n s x e c)
  where
    by_test : (t : Bool) → (if t then Some b.series else series_booked n bs) ≡ Some s → (series_booked n bs ≡ Some s → is_double bs x ≡ true) → ((covers_twice b.series x || (covers b.series x && any_covers bs x)) || is_double bs x) ≡ true
    by_test true e rest = ap (λ t. (t || (covers b.series x && any_covers bs x)) || is_double bs x) (ap (λ r. covers_twice r x) (same_some b.series s e) ∙ c)
    by_test false e rest = ap (λ t. (covers_twice b.series x || (covers b.series x && any_covers bs x)) || t) (rest e) ∙ or_true (covers_twice b.series x || (covers b.series x && any_covers bs x))

-- two bookings cover it
both_of : (bs : List Booking) (n m : ℕ) (s r : Series) (x : ℤ) → (n ≡ m → ⊥) → series_booked n bs ≡ Some s → series_booked m bs ≡ Some r → covers s x ≡ true → covers r x ≡ true → is_double bs x ≡ true
both_of [] n m s r x differ h g c d = absurd (not_none s h)
both_of (b ∷ bs) n m s r x differ h g c d = by_tests (b.number == n) (b.number == m) refl refl h g (λ p q. both_of bs n m s r x differ p q c d)
  where
    here : (q : Series) → Some b.series ≡ Some q → covers q x ≡ true → any_covers bs x ≡ true → ((covers_twice b.series x || (covers b.series x && any_covers bs x)) || is_double bs x) ≡ true
    here q e f any =
        ap (λ t. (covers_twice b.series x || (t && any_covers bs x)) || is_double bs x) (ap (λ p. covers p x) (same_some b.series q e) ∙ f)
        ∙ ap (λ t. (covers_twice b.series x || t) || is_double bs x) any ∙ ap (λ t. t || is_double bs x) (or_true (covers_twice b.series x))

    by_tests : (t u : Bool) → (b.number == n) ≡ t → (b.number == m) ≡ u → (if t then Some b.series else series_booked n bs) ≡ Some s → (if u then Some b.series else series_booked m bs) ≡ Some r
        → (series_booked n bs ≡ Some s → series_booked m bs ≡ Some r → is_double bs x ≡ true) → ((covers_twice b.series x || (covers b.series x && any_covers bs x)) || is_double bs x) ≡ true
    by_tests true true e f p q rest = absurd (differ (sym (same_number b.number n e) ∙ same_number b.number m f))
    by_tests true false e f p q rest = here s p c (any_of bs m r x q d)
    by_tests false true e f p q rest = here r q d (any_of bs n s x p c)
    by_tests false false e f p q rest =
        ap (λ t. (covers_twice b.series x || (covers b.series x && any_covers bs x)) || t) (rest p q) ∙ or_true (covers_twice b.series x || (covers b.series x && any_covers bs x))

-- ---- A booking that covers a second.

record CoveredBy (bs : List Booking) (x : ℤ) : Type 0 where
  number : ℕ
  series : Series
  booked : series_booked number bs ≡ Some series
  covered : covers series x ≡ true

not_above : (n m : ℕ) (s : Series) (bs : List Booking) → AreAbove n bs → series_booked m bs ≡ Some s → n < m
not_above n m s [] above h = absurd (not_none s h)
not_above n m s (b ∷ bs) above h = by_test (b.number == m) refl h (λ g. not_above n m s bs above.1 g)
  where
    by_test : (t : Bool) → (b.number == m) ≡ t → (if t then Some b.series else series_booked m bs) ≡ Some s → (series_booked m bs ≡ Some s → n < m) → n < m
    by_test true e g rest = let is = same_number b.number m e in subst (λ k. n < k) is above.0
    by_test false e g rest = rest g

covered_by : (bs : List Booking) (x : ℤ) → Rise bs → any_covers bs x ≡ true → CoveredBy bs x
covered_by [] x rise h = absurd (false≢true h)
covered_by (b ∷ bs) x rise h = by_test (covers b.series x) refl h (λ g. covered_by bs x rise.1 g)
  where
    by_test : (t : Bool) → covers b.series x ≡ t → (t || any_covers bs x) ≡ true → (any_covers bs x ≡ true → CoveredBy bs x) → CoveredBy (b ∷ bs) x
    by_test true e g rest = record { number = b.number; series = b.series; booked = ap (λ t. if t then Some b.series else series_booked b.number bs) (number_same b.number b.number refl); covered = e }
    by_test false e g rest =
        let later = rest g in
        let apart : (b.number == later.number) ≡ false = other_number b.number later.number (λ is. let up = not_above b.number later.number later.series bs rise.0 later.booked in omega (arith, up, is)) in
        record { number = later.number; series = later.series; booked = ap (λ t. if t then Some b.series else series_booked later.number bs) apart ∙ later.booked; covered = later.covered }

-- ---- The law.

none_without : (n : ℕ) (bs : List Booking) (x : ℤ) → any_covers bs x ≡ false → any_covers (without_booking n bs) x ≡ false
none_without n [] x h = refl
none_without n (b ∷ bs) x h = let p = or_false (covers b.series x) (any_covers bs x) h in by_test (b.number == n) p.0 p.1 (none_without n bs x p.1)
  where
    by_test : (t : Bool) → covers b.series x ≡ false → any_covers bs x ≡ false → any_covers (without_booking n bs) x ≡ false → any_covers (if t then bs else b ∷ without_booking n bs) x ≡ false
    by_test true here later rest = later
    by_test false here later rest = ap (λ t. t || any_covers (without_booking n bs) x) here ∙ rest

-- `ps` are some of the bookings `bs`, without that of n, which is of the series s
pub clear_beside : (n : ℕ) (s : Series) (ps bs : List Booking) → Rise ps → IsFree bs → series_booked n bs ≡ Some s → series_booked n ps ≡ None
    → ((m : ℕ) (r : Series) → series_booked m ps ≡ Some r → series_booked m bs ≡ Some r) → IsClear (without_booking n ps) s
clear_beside n s ps bs rise free own new some x = by_tests (covers_twice s x) (covers s x) (any_covers ps x) refl refl refl
  where
    unbooked : (c : CoveredBy ps x) → n ≡ c.number → ⊥
    unbooked c is = not_none c.series (sym new ∙ ap (λ m. series_booked m ps) is ∙ c.booked)

    by_tests : (t a o : Bool) → covers_twice s x ≡ t → covers s x ≡ a → any_covers ps x ≡ o → (covers_twice s x || (any_covers (without_booking n ps) x && covers s x)) ≡ false
    by_tests true a o e f g = absurd (false≢true (sym (free x) ∙ twice_of bs n s x own e))
    by_tests false a false e f g = rw (e, none_without n ps x g) refl
    by_tests false false true e f g = rw (e, f) (nothing (any_covers (without_booking n ps) x))
      where
        nothing : (b : Bool) → (b && false) ≡ false
        nothing true = refl
        nothing false = refl
    by_tests false true true e f g =
        let c = covered_by ps x rise g in
        absurd (false≢true (sym (free x) ∙ both_of bs n c.number s c.series x (unbooked c) own (some c.number c.series c.booked) f c.covered))

-- ---- How many they are.

own_series : (b : Booking) (bs : List Booking) → series_booked b.number (b ∷ bs) ≡ Some b.series
own_series b bs = ap (λ t. if t then Some b.series else series_booked b.number bs) (number_same b.number b.number refl)

-- of bookings in order, those that are some of others are no more
no_more : (ps bs : List Booking) → Rise ps → Rise bs → ((m : ℕ) (r : Series) → series_booked m ps ≡ Some r → series_booked m bs ≡ Some r) → length ps ≤ length bs
no_more [] bs rise up some = omega arith
no_more (p ∷ ps) [] rise up some = absurd (not_none p.series (some p.number p.series (own_series p ps)))
no_more (p ∷ ps) (b ∷ bs) rise up some =
    by_test (b.number == p.number) refl (λ h. no_more ps bs rise.1 up.1 h) (λ h. no_more (p ∷ ps) bs rise up.1 h)
  where
    -- not the first one
    behind : (m : ℕ) (r : Series) → (b.number == m) ≡ false → series_booked m (b ∷ bs) ≡ Some r → series_booked m bs ≡ Some r
    behind m r other h = sym (ap (λ t. if t then Some b.series else series_booked m bs) other) ∙ h

    later : (m : ℕ) (r : Series) → series_booked m ps ≡ Some r → series_booked m (p ∷ ps) ≡ Some r
    later m r h =
        let above = not_above p.number m r ps rise.0 h in
        ap (λ t. if t then Some p.series else series_booked m ps) (other_number p.number m (λ is. omega (arith, above, is))) ∙ h

    by_test : (t : Bool) → (b.number == p.number) ≡ t → (((m : ℕ) (r : Series) → series_booked m ps ≡ Some r → series_booked m bs ≡ Some r) → length ps ≤ length bs)
        → (((m : ℕ) (r : Series) → series_booked m (p ∷ ps) ≡ Some r → series_booked m bs ≡ Some r) → length (p ∷ ps) ≤ length bs) → length (p ∷ ps) ≤ length (b ∷ bs)
    by_test true e first rest =
        let same = same_number b.number p.number e in
        let fewer = first (λ m r h. let above = not_above p.number m r ps rise.0 h in behind m r (other_number b.number m (λ is. omega (arith, above, is, same))) (some m r (later m r h))) in
        omega (arith, fewer)
    by_test false e first rest =
        let found = behind p.number p.series e (some p.number p.series (own_series p ps)) in
        let low = not_above b.number p.number p.series bs up.0 found in
        let fewer = rest (λ m r h. behind m r (other_number b.number m (λ is. let up = at_least m r h in omega (arith, low, up, is))) (some m r h)) in
        omega (arith, fewer)
      where
        at_least : (m : ℕ) (r : Series) → series_booked m (p ∷ ps) ≡ Some r → p.number ≤ m
        at_least m r h = by_number (p.number == m) refl h
          where
            by_number : (t : Bool) → (p.number == m) ≡ t → (if t then Some p.series else series_booked m ps) ≡ Some r → p.number ≤ m
            by_number true e g = let is = same_number p.number m e in omega (arith, is)
            by_number false e g = let above = not_above p.number m r ps rise.0 g in omega (arith, above)

-- one of the bookings beside some of the others: these are fewer
pub fewer_beside : (n : ℕ) (s : Series) (ps bs : List Booking) → Rise ps → Rise bs → series_booked n bs ≡ Some s
    → ((m : ℕ) (r : Series) → series_booked m ps ≡ Some r → series_booked m bs ≡ Some r) → length (without_booking n ps) < length bs
fewer_beside n s ps bs rise up own some =
    let all = no_more (with_booking n s (without_booking n ps)) bs (rise_again n (Some s) ps rise) up with_own in
    omega (arith, all, length-with n s (without_booking n ps))
  where
    with_own : (m : ℕ) (r : Series) → series_booked m (with_booking n s (without_booking n ps)) ≡ Some r → series_booked m bs ≡ Some r
    with_own m r h = by_number (n == m) refl
      where
        by_number : (t : Bool) → (n == m) ≡ t → series_booked m bs ≡ Some r
        by_number true e =
            let is = same_number n m e in
            ap (λ i. series_booked i bs) (sym is) ∙ own ∙ sym (in_again_same n (Some s) ps rise) ∙ ap (λ i. series_booked i (with_booking n s (without_booking n ps))) is ∙ h
        by_number false e = some m r (sym (in_again_other m n (Some s) ps e) ∙ h)
