-- The first clash of any series and bookings is the least second that is one, over all days without end.
use Rattle.std.proofs.Common.{◌≡◌, ℕ, zero, suc, ◌*◌, ◌≤◌, ◌^◌, ℤ, pos, negsuc, ◌+ℤ◌, ◌-ℤ◌, ◌≤ℤ◌, ◌<ℤ◌, inl, inr, Bool, true, false, List, Option, Some, None, MatchOption, option_map, refl, ap, arith, subst, mul_comm, mul-le-mul}
use Rattle.std.specs.Prelude.{find}
use Rattle.std.proofs.lemmas.Int.{by_lt_z}
use Rattle.jiff_core.proofs.SignedLemmas.{signed_arith}
use Rattle.spec_bookings.proofs.Tables.{by_test}
use Rattle.spec_bookings.specs.declared.booking.Booking.{Booking}
use Rattle.spec_bookings.specs.Clashes.{IsClash, clash_at, first_clash, is_clash, second_of}
use Rattle.spec_series.specs.Occurrences.{Covers, IsOccurrence}
use Rattle.spec_series.specs.Numbers.{numbers_from, seconds_around}
use Rattle.spec_series.specs.Shared.{first_second}
use Rattle.spec_series.specs.declared.occurrence.Occurrence.{Occurrence}
use Rattle.spec_series.specs.declared.series.Series.{Series}
use Rattle.spec_time.specs.Walls.{day_of_wall, second_of_wall, wall_at}
use Rattle.resource_book.proofs.Clashes.{clash_to, to_clash}
use Rattle.rule_expand.proofs.Least.{same-least}
use Rattle.rule_expand.specs.Least.{IsLeastOf}
use Rattle.account_rooms.proofs.Earlier.{again, back, bounds, earlier}

-- ---- The search.

-- the least number from one on, less than another, that passes a test
abbrev LeastWithin : (ℤ → Bool) → ℤ → ℤ → Option ℤ → Type 0
LeastWithin p from end o = MatchOption o ((y : ℤ) → from ≤ℤ y → y <ℤ end → p y ≡ true → ⊥) (λ x. (p x ≡ true) × ((y : ℤ) → from ≤ℤ y → p y ≡ true → x ≤ℤ y))

one_less : (p : ℤ → Bool) (from end : ℤ) (o : Option ℤ) → p from ≡ false → LeastWithin p (from +ℤ pos 1) end o → LeastWithin p from end o
one_less p from end None fails h = λ y low high e. by_lt_z from y (λ lt. h y (omega (arith, signed_arith, lt)) high e)
    (λ ge. let same : y ≡ from = omega (arith, signed_arith, low, ge) in absurd (cc (ap p same, e, fails)))
one_less p from end (Some x) fails h = (
  h.0,
  λ y low e. by_lt_z from y (λ lt. h.1 y (omega (arith, signed_arith, lt)) e)
      (λ ge. let same : y ≡ from = omega (arith, signed_arith, low, ge) in absurd (cc (ap p same, e, fails))),
)

searched : (p : ℤ → Bool) (from : ℤ) (n : ℕ) → LeastWithin p from (from +ℤ pos n) (find p (numbers_from from n))
unfolding numbers_from
searched p from zero = λ y low high e. absurd (omega (arith, signed_arith, low, high))
searched p from (suc n) =
    by_test (LeastWithin p from (from +ℤ pos (suc n))) (p from) (Some from) (find p (numbers_from (from +ℤ pos 1) n))
    (λ holds. (holds, λ y low e. low))
    (λ fails.
    let end : (from +ℤ pos 1) +ℤ pos n ≡ from +ℤ pos (suc n) = omega (arith, signed_arith) in
    one_less p from (from +ℤ pos (suc n)) (find p (numbers_from (from +ℤ pos 1) n)) fails (subst (λ (z : ℤ). LeastWithin p (from +ℤ pos 1) z (find p (numbers_from (from +ℤ pos 1) n))) end (searched p (from +ℤ pos 1) n)))

module _ (p : ℤ → Bool) (low : (x : ℤ) → p x ≡ true → (pos 0 -ℤ pos (2 ^ 57)) ≤ℤ x) (near : (x : ℤ) → p x ≡ true → (y : ℤ) × ((y <ℤ pos (2 ^ 57)) × (p y ≡ true))) where
  all_numbers : (end : ℤ) (o : Option ℤ) → pos (2 ^ 57) ≤ℤ end → LeastWithin p (pos 0 -ℤ pos (2 ^ 57)) end o → IsLeastOf (λ x. p x ≡ true) o
  all_numbers end None far h = λ x e. let y = near x e in h y.0 (low y.0 y.1.1) (omega (arith, signed_arith, y.1.0, far)) y.1.1
  all_numbers end (Some x) far h = record { holds = h.0; least = λ y e. h.1 y (low y e) e }

  -- a test whose numbers aren't too low, and that has a low one if any
  pub least_second : IsLeastOf (λ x. p x ≡ true) (first_second p)
  unfolding first_second seconds_around
  least_second = all_numbers _ (find p (numbers_from (pos 0 -ℤ pos (2 ^ 57)) (2 ^ 58))) (omega (arith, signed_arith)) (searched p (pos 0 -ℤ pos (2 ^ 57)) (2 ^ 58))

-- ---- Clashes.

-- two occurrences that cover a late second cover one some cycles earlier, both so much earlier
abbrev EarlierToo : Series → Series → Occurrence → Occurrence → ℤ → Type 0
EarlierToo a b o p x = (c : ℕ) × ((1 ≤ c) × ((c ≤ 1000000) × (pos 1000000000000 ≤ℤ (x -ℤ back c)
    → (IsOccurrence a (earlier o c) × Covers (earlier o c) (x -ℤ back c)) × (IsOccurrence b (earlier p c) × Covers (earlier p c) (x -ℤ back c)))))

both_again : (a b : Series) (o p : Occurrence) (x : ℤ) → IsOccurrence a o → IsOccurrence b p → Covers o x → Covers p x → pos 1000000000000 ≤ℤ x → EarlierToo a b o p x
both_again a b o p x of_a of_b over_o over_p far =
    let u = again a o x of_a over_o far in
    let v = again b p x of_b over_p far in
    let turned : u.0 * v.0 ≡ v.0 * u.0 = mul_comm u.0 v.0 in (
      v.0 * u.0,
      (
        mul-le-mul v.1.0 u.1.0,
        (
          mul-le-mul v.1.1.0 u.1.1.0,
          λ less. (
            u.1.1.1 v.0 less,
            subst (λ (c : ℕ). IsOccurrence b (earlier p c) × Covers (earlier p c) (x -ℤ back c)) turned (v.1.1.1 u.0 (rw turned less)),
          ),
        ),
      ),
    )

module _ (bs : List Booking) (s : Series) where
  clash_again : (x : ℤ) → pos 1000000000000 ≤ℤ x → IsClash bs s x → (c : ℕ) × ((1 ≤ c) × ((c ≤ 1000000) × (pos 1000000000000 ≤ℤ (x -ℤ back c) → IsClash bs s (x -ℤ back c))))
  clash_again x far (inl (o, p, of_o, of_p, apart, over_o, over_p)) =
      let e = both_again s s o p x of_o of_p over_o over_p far in (
        e.0,
        (
          e.1.0,
          (
            e.1.1.0,
            λ less.
                let both = e.1.1.1 less in
                inl (earlier o e.0, earlier p e.0, both.0.0, both.1.0, (λ same. apart (omega (arith, signed_arith, same))), both.0.1, both.1.1),
          ),
        ),
      )
  clash_again x far (inr (k, b, at, (o, p, of_o, of_p, over_o, over_p))) =
      let e = both_again b.series s o p x of_o of_p over_o over_p far in (
        e.0,
        (
          e.1.0,
          (
            e.1.1.0,
            λ less.
                let both = e.1.1.1 less in
                inr (k, b, at, (earlier o e.0, earlier p e.0, both.0.0, both.1.0, both.0.1, both.1.1)),
          ),
        ),
      )

  clash_near : (n : ℕ) (x : ℤ) → x <ℤ (pos (2 ^ 57) +ℤ pos n) → IsClash bs s x → (y : ℤ) × ((y <ℤ pos (2 ^ 57)) × IsClash bs s y)
  clash_near zero x less h = (x, (omega (arith, signed_arith, less), h))
  clash_near (suc n) x less h =
      by_lt_z x (pos (2 ^ 57))
      (λ lt. (x, (lt, h)))
      (λ ge.
      let e = clash_again x (omega (arith, signed_arith, ge)) h in
      clash_near n (x -ℤ back e.0) (omega (arith, signed_arith, less, e.1.0)) (e.1.1.1 (omega (arith, signed_arith, ge, e.1.1.0))))

  far_enough : (x : ℤ) → (n : ℕ) × (x <ℤ (pos (2 ^ 57) +ℤ pos n))
  far_enough (pos n) = (suc n, omega (arith, signed_arith))
  far_enough (negsuc n) = (0, omega (arith, signed_arith))

  clash_low : (x : ℤ) → IsClash bs s x → (pos 0 -ℤ pos (2 ^ 57)) ≤ℤ x
  clash_low x (inl (o, p, of_o, of_p, apart, over_o, over_p)) = let low = (bounds s o of_o).0 in omega (arith, signed_arith, low, over_o.begun)
  clash_low x (inr (k, b, at, (o, p, of_o, of_p, over_o, over_p))) = let low = (bounds s p of_p).0 in omega (arith, signed_arith, low, over_p.begun)

  near_by_test : (x : ℤ) → is_clash bs s x ≡ true → (y : ℤ) × ((y <ℤ pos (2 ^ 57)) × (is_clash bs s y ≡ true))
  near_by_test x e =
      let n = far_enough x in
      let y = clash_near n.0 x n.1 (clash_to bs s x e) in
      (y.0, (y.1.0, to_clash bs s y.0 y.1.1))

  -- the second that the search finds
  pub least_clash_second : IsLeastOf (IsClash bs s) (first_second (is_clash bs s))
  least_clash_second =
      same-least (λ x. is_clash bs s x ≡ true) (IsClash bs s) (first_second (is_clash bs s)) (clash_to bs s) (to_clash bs s)
      (least_second (is_clash bs s) (λ x e. clash_low x (clash_to bs s x e)) near_by_test)

-- the second of the clash at a second
pub whole : (x : ℤ) → wall_at (day_of_wall x) (second_of_wall x) ≡ x
whole x = omega (arith, signed_arith)

second_same : (bs : List Booking) (o : Option ℤ) → option_map second_of (option_map (clash_at bs) o) ≡ o
second_same bs None = refl
second_same bs (Some x) = ap Some (whole x)

pub least_first_clash : (bs : List Booking) (s : Series) → IsLeastOf (IsClash bs s) (option_map second_of (first_clash bs s))
least_first_clash bs s = rw (second_same bs (first_second (is_clash bs s))) (least_clash_second bs s)
