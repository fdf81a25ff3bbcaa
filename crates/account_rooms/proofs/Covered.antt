-- Bookings of which no second is covered twice, as a fact over occurrences.
use Rattle.std.proofs.Common.{◌≡◌, ◌<◌, inl, inr, ◌&&◌, ◌||◌, true, ℕ, zero, suc, ℤ, List, [], ◌∷◌, Some, slice_get, arith, sym, ap, ◌∙◌, subst}
use Rattle.std.proofs.lemmas.Bool.{and_from, cases_order, false≢true, or_left, or_right}
use Rattle.std.proofs.lemmas.Option.{none-some, same_Some}
use Rattle.std.proofs.lemmas.Map.Keys.{any_passes_from_place}
use Rattle.account_rooms.specs.Covered.{IsCoveredTwice}
use Rattle.spec_bookings.specs.Clashes.{any_covers}
use Rattle.spec_bookings.specs.declared.booking.Booking.{Booking}
use Rattle.spec_series.specs.Occurrences.{IsOccurrence}
use Rattle.spec_series.specs.Shared.{covers, covers_twice}
use Rattle.residue_clash.proofs.Covering.{covers_is, covers_twice_is}
use Rattle.spec_bookings.specs.Free.{IsFree, is_double}

-- a booking covers x twice
alone_double : (bs : List Booking) (k : ℕ) (b : Booking) (x : ℤ) → slice_get bs k ≡ Some b → covers_twice b.series x ≡ true → is_double bs x ≡ true
alone_double [] k b x e h = absurd (none-some b e)
alone_double (c ∷ bs) zero b x e h =
    or_left (covers_twice c.series x || (covers c.series x && any_covers bs x)) (is_double bs x)
    (or_left (covers_twice c.series x) (covers c.series x && any_covers bs x) (ap (λ d. covers_twice d.series x) (same_Some c b e) ∙ h))
alone_double (c ∷ bs) (suc k) b x e h = or_right (covers_twice c.series x || (covers c.series x && any_covers bs x)) (is_double bs x) (alone_double bs k b x e h)

-- two bookings cover x
both_double : (bs : List Booking) (i j : ℕ) (a b : Booking) (x : ℤ) → i < j → slice_get bs i ≡ Some a → slice_get bs j ≡ Some b → covers a.series x ≡ true → covers b.series x ≡ true → is_double bs x ≡ true
both_double [] i j a b x lt e f h g = absurd (none-some a e)
both_double (c ∷ bs) i zero a b x lt e f h g = absurd (omega (arith, lt))
both_double (c ∷ bs) zero (suc j) a b x lt e f h g =
    or_left (covers_twice c.series x || (covers c.series x && any_covers bs x)) (is_double bs x)
    (or_right (covers_twice c.series x) (covers c.series x && any_covers bs x)
    (and_from (covers c.series x) (any_covers bs x) (ap (λ d. covers d.series x) (same_Some c a e) ∙ h) (any_passes_from_place (λ (d : Booking). covers d.series x) bs j b f g)))
both_double (c ∷ bs) (suc i) (suc j) a b x lt e f h g =
    or_right (covers_twice c.series x || (covers c.series x && any_covers bs x)) (is_double bs x) (both_double bs i j a b x (omega (arith, lt)) e f h g)

-- two occurrences that differ are not of bookings of which no second is covered twice
pub not_covered_twice : (bs : List Booking) (x : ℤ) → IsFree bs → IsCoveredTwice bs x → ⊥
not_covered_twice bs x free (i, j, a, b, o, p, at_i, at_j, of_a, of_b, differ, over_o, over_p) =
    false≢true (sym (free x) ∙ elim (cases_order i j) [ inl same ↦ one same | inr other ↦ elim other [ inl lt ↦ both_double bs i j a b x lt at_i at_j by_a by_b | inr lt ↦ both_double bs j i b a x lt at_j at_i by_b by_a ] ])
  where
    by_a : covers a.series x ≡ true
    by_a = (covers_is a.series x).1 (o, (of_a, over_o))

    by_b : covers b.series x ≡ true
    by_b = (covers_is b.series x).1 (p, (of_b, over_p))

    one : i ≡ j → is_double bs x ≡ true
    one same =
        let here : b ≡ a = same_Some b a (sym at_j ∙ ap (slice_get bs) (sym same) ∙ at_i) in
        alone_double bs i a x at_i ((covers_twice_is a.series x).1 (o, p, of_a, subst (λ (d : Booking). IsOccurrence d.series p) here of_b, (λ r. differ (same, r)), over_o, over_p))
