-- The bookings of the live events, one number after the other.
use Rattle.std.proofs.Common.{◌≡◌, ℕ, ◌<◌, ◌≤◌, ◌==◌, nat_lt, List, [], ◌∷◌, ◌++◌, Bool, true, false, cond, ◌||◌, Option, Some, None, flat_map, is_some, refl, sym, ap, ◌∙◌, arith, if◌then◌else◌, ⊎_elim}
use Rattle.std.proofs.lemmas.Bool.{cases_lt, false≢true}
use Rattle.std.proofs.lemmas.Bool.Decides.{nat_tests}
use Rattle.std.proofs.lemmas.List.Folds.{list_any-append}
use Rattle.spec_json.specs.InOrder.{in_order, put_in}
use Rattle.spec_json.specs.declared.tree.Tree.{Tree}
use Rattle.spec_history.specs.History.{ids_at, ids_from, is_kind, live_object, with_id}
use Rattle.spec_history.specs.Pages.{is_in}
use Rattle.spec_history.specs.declared.entry.Change.{Change}
use Rattle.spec_history.specs.declared.entry.Kind.{Kind}
use Rattle.spec_history.specs.declared.entry.Kind.TheVariants.{Event}
use Rattle.spec_series.specs.declared.series.Series.{Series}
use Rattle.spec_bookings.specs.HistoryBookings.{booked_by, booking_of, bookings_at}
use Rattle.spec_bookings.specs.Rising.{AreAbove, Rise, series_booked}
use Rattle.spec_bookings.specs.declared.booking.Booking.{Booking}
use Rattle.spec_bookings.proofs.Numbered.{numbered_if_live}
use Rattle.spec_bookings.proofs.Placed.{above_less, in_above}
use Rattle.spec_bookings.proofs.Tables.{by_test, lt_true, number_same, or_false, other_number, same_number, turned}

-- ---- Numbers that are put in order.

abbrev AllAbove : ℕ → List ℕ → Type 0
AllAbove n [] = Unit {0}
AllAbove n (m ∷ ms) = (n < m) × AllAbove n ms

abbrev NumbersRise : List ℕ → Type 0
NumbersRise [] = Unit {0}
NumbersRise (n ∷ ns) = AllAbove n ns × NumbersRise ns

-- each number stands once
abbrev Differ : List ℕ → Type 0
Differ [] = Unit {0}
Differ (n ∷ ns) = (is_in ns n ≡ false) × Differ ns

all_above_less : (m n : ℕ) (ns : List ℕ) → m ≤ n → AllAbove n ns → AllAbove m ns
all_above_less m n [] le h = tt
all_above_less m n (k ∷ ns) le h = (omega (arith, le, h.0), all_above_less m n ns le h.1)

above_put : (k x : ℕ) (ys : List ℕ) → k < x → AllAbove k ys → AllAbove k (put_in nat_lt x ys)
above_put k x [] lt h = (lt, tt)
above_put k x (y ∷ ys) lt h = by_test (AllAbove k) (nat_lt y x) (y ∷ put_in nat_lt x ys) (x ∷ y ∷ ys) (λ e. (h.0, above_put k x ys lt h.1)) (λ e. (lt, h))

rise_put : (x : ℕ) (ys : List ℕ) → is_in ys x ≡ false → NumbersRise ys → NumbersRise (put_in nat_lt x ys)
rise_put x [] new h = (tt, tt)
rise_put x (y ∷ ys) new h =
    let p = or_false (y == x) (is_in ys x) new in
    by_test NumbersRise (nat_lt y x) (y ∷ put_in nat_lt x ys) (x ∷ y ∷ ys)
    (λ e. (above_put y x ys (lt_true y x e) h.0, rise_put x ys p.1 h.1))
    (λ e. let less = below p.0 e in ((less, all_above_less x y ys (omega (arith, less)) h.0), h))
  where
    below : (y == x) ≡ false → nat_lt y x ≡ false → x < y
    below p e = grind (arith, nat_tests)

swap_or : (a b c : Bool) → (a || (b || c)) ≡ (b || (a || c))
swap_or true true c = refl
swap_or true false c = refl
swap_or false b c = refl

in_put : (x m : ℕ) (ys : List ℕ) → is_in (put_in nat_lt x ys) m ≡ ((x == m) || is_in ys m)
in_put x m [] = refl
in_put x m (y ∷ ys) =
    by_test (λ (zs : List ℕ). is_in zs m ≡ ((x == m) || is_in (y ∷ ys) m)) (nat_lt y x) (y ∷ put_in nat_lt x ys) (x ∷ y ∷ ys)
    (λ e. ap (λ (t : Bool). (y == m) || t) (in_put x m ys) ∙ swap_or (y == m) (x == m) (is_in ys m))
    (λ e. refl)

in_ordered : (ns : List ℕ) (m : ℕ) → is_in (in_order nat_lt ns) m ≡ is_in ns m
in_ordered [] m = refl
in_ordered (n ∷ ns) m = in_put n m (in_order nat_lt ns) ∙ ap (λ (t : Bool). (n == m) || t) (in_ordered ns m)

rise_ordered : (ns : List ℕ) → Differ ns → NumbersRise (in_order nat_lt ns)
rise_ordered [] d = tt
rise_ordered (n ∷ ns) d = rise_put n (in_order nat_lt ns) (in_ordered ns n ∙ d.0) (rise_ordered ns d.1)

-- ---- The numbers of a history differ.

in_end : (ns : List ℕ) (n m : ℕ) → is_in ns m ≡ false → (n == m) ≡ false → is_in (ns ++ n ∷ []) m ≡ false
in_end ns n m h e = rw (list_any-append, h, e) refl

differ_end : (ns : List ℕ) (n : ℕ) → Differ ns → is_in ns n ≡ false → Differ (ns ++ n ∷ [])
differ_end [] n d h = (refl, tt)
differ_end (m ∷ ns) n d h = let p = or_false (m == n) (is_in ns n) h in (in_end ns n m d.0 (turned n m ∙ p.0), differ_end ns n d.1 p.1)

differ_by : (ids : List ℕ) (id : ℕ) (known : Bool) → is_in ids id ≡ known → Differ ids → Differ (cond known ids (ids ++ id ∷ []))
differ_by ids id true e d = d
differ_by ids id false e d = differ_end ids id d e

differ_from : (cs : List Change) (ids : List ℕ) (kind : Kind) → Differ ids → Differ (ids_from ids cs kind)
differ_from [] ids kind d = d
differ_from (c ∷ cs) ids kind d =
    differ_from cs _ kind (by_test Differ (is_kind kind c.kind) (with_id ids c.id) ids (λ e. differ_by ids c.id (is_in ids c.id) refl d) (λ e. d))

-- ---- What the events of rising numbers book.

module _ (f : ℕ → Option Series) where
  abbrev listed : List ℕ → List Booking
  listed ns = flat_map (λ n. booking_of n (f n)) ns

  above_listed : (k : ℕ) (ns : List ℕ) → AllAbove k ns → AreAbove k (listed ns)
  above_listed k [] h = tt
  above_listed k (n ∷ ns) h = by_cases (f n) (above_listed k ns h.1)
    where
      by_cases : (o : Option Series) → AreAbove k (listed ns) → AreAbove k (booking_of n o ++ listed ns)
      by_cases None rest = rest
      by_cases (Some s) rest = (h.0, rest)

  rise_listed : (ns : List ℕ) → NumbersRise ns → Rise (listed ns)
  rise_listed [] h = tt
  rise_listed (n ∷ ns) h = by_cases (f n) (rise_listed ns h.1)
    where
      by_cases : (o : Option Series) → Rise (listed ns) → Rise (booking_of n o ++ listed ns)
      by_cases None rest = rest
      by_cases (Some s) rest = (above_listed n ns h.0, rest)

  not_listed : (ns : List ℕ) (m : ℕ) → is_in ns m ≡ false → series_booked m (listed ns) ≡ None
  not_listed [] m h = refl
  not_listed (n ∷ ns) m h = let p = or_false (n == m) (is_in ns m) h in by_cases (f n) p.0 (not_listed ns m p.1)
    where
      by_cases : (o : Option Series) → (n == m) ≡ false → series_booked m (listed ns) ≡ None → series_booked m (booking_of n o ++ listed ns) ≡ None
      by_cases None e rest = rest
      by_cases (Some s) e rest = rw e rest

  not_above : (n m : ℕ) (ns : List ℕ) → m ≤ n → AllAbove n ns → is_in ns m ≡ false
  not_above n m [] le h = refl
  not_above n m (k ∷ ns) le h = rw (other_number k m (λ e. omega (arith, e, le, h.0))) (not_above n m ns le h.1)

  is_listed : (ns : List ℕ) (m : ℕ) → NumbersRise ns → is_in ns m ≡ true → series_booked m (listed ns) ≡ f m
  is_listed [] m h there = absurd (false≢true there)
  is_listed (n ∷ ns) m h there = by_cases (n == m) (f n) refl refl there (λ t. is_listed ns m h.1 t)
    where
      by_cases : (same : Bool) (o : Option Series) → (n == m) ≡ same → f n ≡ o → (same || is_in ns m) ≡ true → (is_in ns m ≡ true → series_booked m (listed ns) ≡ f m)
          → series_booked m (booking_of n o ++ listed ns) ≡ f m
      by_cases true None e is t rest =
          let level = same_number n m e in
          not_listed ns m (not_above n m ns (omega (arith, level)) h.0) ∙ sym is ∙ ap f level
      by_cases true (Some s) e is t rest = rw e (sym is ∙ ap f (same_number n m e))
      by_cases false None e is t rest = rest t
      by_cases false (Some s) e is t rest = rw e (rest t)

-- ---- Bookings in order are told by what is booked under each number.

alone : (b : Booking) (bs : List Booking) → series_booked b.number (b ∷ bs) ≡ Some b.series
alone b bs = rw (number_same b.number b.number refl) refl

none_before : (n : ℕ) (b : Booking) (bs : List Booking) → n < b.number → Rise (b ∷ bs) → series_booked n (b ∷ bs) ≡ None
none_before n b bs lt h = in_above n n (b ∷ bs) (omega arith) (lt, above_less n b.number bs (omega (arith, lt)) h.0)

same_booking : (a b : Booking) → a.number ≡ b.number → a.series ≡ b.series → a ≡ b
same_booking a b e f = ap (λ (n : ℕ). record { number = n; series = a.series }) e ∙ ap (λ (s : Series). record { number = b.number; series = s }) f

none_some : (s : Series) → None ≡ Some s → ⊥
none_some s h = cc h

pub same_bookings : (xs ys : List Booking) → Rise xs → Rise ys → ((m : ℕ) → series_booked m xs ≡ series_booked m ys) → xs ≡ ys
same_bookings [] [] r q h = refl
same_bookings [] (y ∷ ys) r q h = absurd (none_some y.series (h y.number ∙ alone y ys))
same_bookings (x ∷ xs) [] r q h = absurd (none_some x.series (sym (h x.number) ∙ alone x xs))
same_bookings (x ∷ xs) (y ∷ ys) r q h =
    ⊎_elim
    (λ (less : x.number < y.number). absurd (none_some x.series (sym (none_before x.number y ys less q) ∙ sym (h x.number) ∙ alone x xs)))
    (λ (le : y.number ≤ x.number).
    ⊎_elim
    (λ (less : y.number < x.number). absurd (none_some y.series (sym (none_before y.number x xs less r) ∙ h y.number ∙ alone y ys)))
    (λ (ge : x.number ≤ y.number). let level : x.number ≡ y.number = omega (arith, le, ge) in first_same level (same_bookings xs ys r.1 q.1 (λ m. rest_by m (x.number == m) level refl)))
    (cases_lt y.number x.number))
    (cases_lt x.number y.number)
  where
    rest_by : (m : ℕ) (t : Bool) → x.number ≡ y.number → (x.number == m) ≡ t → series_booked m xs ≡ series_booked m ys
    rest_by m true level e =
        let at = same_number x.number m e in
        in_above m x.number xs (omega (arith, at)) r.0 ∙ sym (in_above m y.number ys (omega (arith, at, level)) q.0)
    rest_by m false level e =
        let other : (y.number == m) ≡ false = ap (λ (n : ℕ). n == m) (sym level) ∙ e in
        sym (ap (λ (t : Bool). if t then Some x.series else series_booked m xs) e) ∙ h m ∙ ap (λ (t : Bool). if t then Some y.series else series_booked m ys) other

    same_some : (s t : Series) → Some s ≡ Some t → s ≡ t
    same_some s t e = cc e

    first_same : x.number ≡ y.number → xs ≡ ys → (x ∷ xs) ≡ (y ∷ ys)
    first_same level rest =
        let series = same_some x.series y.series (sym (alone x xs) ∙ h x.number ∙ ap (λ (n : ℕ). series_booked n (y ∷ ys)) level ∙ alone y ys) in
        ap (λ (c : Booking). c ∷ xs) (same_booking x y level series) ∙ ap (λ (cs : List Booking). y ∷ cs) rest

-- ---- The bookings at a history.

not_numbered : (books : Tree → Option Series) (cs : List Change) (n : ℕ) → is_in (ids_at cs Event) n ≡ false → (o : Option Tree) → live_object cs Event n ≡ o → booked_by books o ≡ None
not_numbered books cs n out None e = refl
not_numbered books cs n out (Some t) e = absurd (false≢true (sym out ∙ numbered_if_live cs Event n None [] (λ l. absurd (false≢true l)) (ap is_some e)))

module _ (books : Tree → Option Series) where
  abbrev booked_at : List Change → ℕ → Option Series
  booked_at cs n = booked_by books (live_object cs Event n)

  numbers_rise : (cs : List Change) → NumbersRise (in_order nat_lt (ids_at cs Event))
  numbers_rise cs = rise_ordered (ids_at cs Event) (differ_from cs [] Event tt)

  pub live_rise : (cs : List Change) → Rise (bookings_at books cs)
  live_rise cs = rise_listed (booked_at cs) (in_order nat_lt (ids_at cs Event)) (numbers_rise cs)

  -- under each number stands what its live event books
  pub live_booked : (cs : List Change) (n : ℕ) → series_booked n (bookings_at books cs) ≡ booked_by books (live_object cs Event n)
  live_booked cs n = by_cases (is_in (ids_at cs Event) n) refl
    where
      by_cases : (known : Bool) → is_in (ids_at cs Event) n ≡ known → series_booked n (bookings_at books cs) ≡ booked_by books (live_object cs Event n)
      by_cases true e = is_listed (booked_at cs) (in_order nat_lt (ids_at cs Event)) n (numbers_rise cs) (in_ordered (ids_at cs Event) n ∙ e)
      by_cases false e =
          not_listed (booked_at cs) (in_order nat_lt (ids_at cs Event)) n (in_ordered (ids_at cs Event) n ∙ e)
          ∙ sym (not_numbered books cs n e (live_object cs Event n) refl)
