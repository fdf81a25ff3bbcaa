-- The quarters between two wall seconds, from one to the next.
use Rattle.std.proofs.Common.{◌≡◌, ◌≤ℤ◌, ◌<ℤ◌, ◌+ℤ◌, ◌*ℤ◌, ℤ, pos, true, false, int_lt, List, [], ◌∷◌, ◌++◌, ap, arith, subst, sym, ◌∙◌}
use Rattle.std.specs.Int.{int_min}
use Rattle.std.proofs.lemmas.Int.{clamps, ints}
use Rattle.jiff_core.proofs.SignedLemmas.{signed_arith}
use Rattle.slot_find.specs.Steps.{IsDayEnd, IsFirstQuarter}
use Rattle.spec_slots.proofs.Quarters.{at_quarter, one_quarter, quarter_at, quarter_of, quarters_before, quarters_from, quarters_join}
use Rattle.spec_slots.specs.Quarters.{is_quarter, quarters}
use Rattle.spec_time.specs.Floor.{floor_div}
use Rattle.spec_time.specs.Walls.{day_of_wall, is_in_years}

pub years_between : (a b x : ℤ) → is_in_years a ≡ true → is_in_years b ≡ true → a ≤ℤ x → x ≤ℤ b → is_in_years x ≡ true
years_between a b x h k low high = grind (arith, signed_arith)

pub before_is : (a b : ℤ) → int_lt a b ≡ true → a <ℤ b
before_is a b h = omega (arith, signed_arith, h)

pub behind_is : (a b : ℤ) → int_lt a b ≡ false → b ≤ℤ a
behind_is a b h = omega (arith, signed_arith, h)

pub min_before : (at end : ℤ) → at <ℤ end → int_min at end ≡ at
min_before at end h = omega (arith, ints, clamps)

pub min_behind : (at end : ℤ) → end ≤ℤ at → int_min at end ≡ end
min_behind at end h = omega (arith, ints, clamps)

-- A look begins at the first quarter.
pub none_before : (from end q : ℤ) → from ≤ℤ end → IsFirstQuarter from q → quarters from (int_min q end) ≡ []
none_before from end q h first =
    let m = quarter_of q first.is in
    let low = first.low in
    let near = first.near in
    quarters_before from (int_min q end) m.0 (omega (arith, ints, clamps)) (subst (λ z. int_min q end ≤ℤ z) m.1 (omega (arith, ints, clamps))) (subst (λ z. z <ℤ (from +ℤ pos 900)) m.1 near)

-- It goes on by one quarter,
alone : (at b : ℤ) → is_quarter at ≡ true → at <ℤ b → b ≤ℤ (at +ℤ pos 900) → quarters at b ≡ at ∷ []
alone at b is low high =
    let m = quarter_of at is in
    ap (λ z. quarters z b) m.1 ∙ (one_quarter m.0 b (subst (λ z. z <ℤ b) m.1 low) (subst (λ z. b ≤ℤ (z +ℤ pos 900)) m.1 high) ∙ ap (λ z. z ∷ []) (sym m.1))

pub one_more : (from at end : ℤ) → from ≤ℤ at → at <ℤ end → is_quarter at ≡ true → quarters from (int_min (at +ℤ pos 900) end) ≡ quarters from at ++ at ∷ []
one_more from at end low high is =
    quarters_join from at (int_min (at +ℤ pos 900) end) low (omega (arith, ints, clamps))
    ∙ ap (λ ys. quarters from at ++ ys) (alone at (int_min (at +ℤ pos 900) end) is (omega (arith, ints, clamps)) (omega (arith, ints, clamps)))

next_at : (m : ℤ) → quarter_at m +ℤ pos 900 ≡ quarter_at (m +ℤ pos 1)
next_at m = omega (arith, ints)

-- and behind a quarter the next one comes.
pub next_quarter_is : (at : ℤ) → is_quarter at ≡ true → is_quarter (at +ℤ pos 900) ≡ true
next_quarter_is at is =
    let m = quarter_of at is in
    ap is_quarter (ap (λ z. z +ℤ pos 900) m.1 ∙ next_at m.0) ∙ at_quarter (m.0 +ℤ pos 1)

-- A quarter among those up to an end.
pub record Among (from end at : ℤ) : Type 0 where
  pub behind : List ℤ
  pub is : quarters from end ≡ quarters from at ++ at ∷ behind

pub among : (from end at : ℤ) → from ≤ℤ at → at <ℤ end → is_quarter at ≡ true → Among from end at
among from end at low high is =
    let m = quarter_of at is in
    let rest = quarters_from m.0 end (subst (λ z. z <ℤ end) m.1 high) in
    record {
      behind = rest.0;
      is = quarters_join from at end low (omega (arith, ints)) ∙ ap (λ ys. quarters from at ++ ys) (ap (λ z. quarters z end) m.1 ∙ (rest.1 ∙ ap (λ z. z ∷ rest.0) (sym m.1)));
    }

-- The first quarter from a wall second on is the one whose number is the quotient that is rounded up.
pub first_is : (from k : ℤ) → k ≡ quarter_at (floor_div (from +ℤ pos 899) 900) → IsFirstQuarter from k
first_is from k e = record {
  is = subst (λ z. is_quarter z ≡ true) (sym e) (at_quarter (floor_div (from +ℤ pos 899) 900));
  low = omega (arith, signed_arith, e);
  near = omega (arith, signed_arith, e);
}

-- The day of a wall second.

day_by : (at x : ℤ) → at ≤ℤ x → x <ℤ ((day_of_wall at +ℤ pos 1) *ℤ pos 86400) → day_of_wall x ≡ day_of_wall at
day_by at x low high = omega (arith, signed_arith)

pub day_is : (at : ℤ) → at <ℤ ((day_of_wall at +ℤ pos 1) *ℤ pos 86400)
day_is at = omega (arith, signed_arith)

-- a look that goes no further than this day ends where it should
pub ends_by : (at to : ℤ) → at ≤ℤ to → to <ℤ ((day_of_wall at +ℤ pos 1) *ℤ pos 86400) → IsDayEnd at to to
ends_by at to order short = record {
  low = order;
  high = omega (arith, ints);
  later = λ h. h;
  day = λ x low high. day_by at x low (omega (arith, ints, high, short));
}

-- another one ends at midnight
pub ends_at : (at to end : ℤ) → end ≡ (day_of_wall at +ℤ pos 1) *ℤ pos 86400 → end ≤ℤ to → IsDayEnd at to end
ends_at at to end e long =
    let h = day_is at in
    record {
      low = omega (arith, ints, h, e);
      high = long;
      later = λ _. omega (arith, ints, h, e);
      day = λ x low high. day_by at x low (omega (arith, ints, high, e));
    }
