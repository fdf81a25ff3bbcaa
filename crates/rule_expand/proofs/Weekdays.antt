-- Days of the week that an item names at every place, and those that none names.
use Rattle.std.proofs.Common.{◌≡◌, ℕ, ◌<◌, ◌==◌, ◌&&◌, ◌∙◌, inl, inr, Bool, true, false, refl, sym, ℤ, List, [], ◌∷◌, Option, Some, None, length}
use Rattle.std.specs.List.{list_any}
use Rattle.std.specs.Option.{option_eq}
use Rattle.std.specs.Ordering.{int_eq}
use Rattle.std.proofs.lemmas.Bool.{and_parts, or_cases, or_left, or_parts, or_right}
use Rattle.spec_series.specs.declared.by_part.NDay.{NDay}
use Rattle.spec_series.specs.Places.{empty_or_any}
use Rattle.spec_series.specs.RuleSets.{is_weekday, nday_matches, nth_matches}
use Rattle.spec_time.specs.CivilDay.{weekday_of}
use Rattle.rule_expand.proofs.NextItem.{asked}
use Rattle.rule_expand.proofs.Places.{false_true}

any_less : {A : Type 0} (p q : A → Bool) → ((x : A) → p x ≡ false → q x ≡ false) → (xs : List A) → list_any p xs ≡ false → list_any q xs ≡ false
any_less p q h [] e = refl
any_less p q h (x ∷ xs) e = let s = or_parts (p x) (list_any p xs) e in rw (h x s.0, any_less p q h xs s.1) refl

any_more : {A : Type 0} (p q : A → Bool) → ((x : A) → p x ≡ true → q x ≡ true) → (xs : List A) → list_any p xs ≡ true → list_any q xs ≡ true
any_more p q h [] e = e
any_more p q h (x ∷ xs) e = elim (or_cases (p x) (list_any p xs) e) [
  | inl here ↦ or_left (q x) (list_any q xs) (h x here)
  | inr later ↦ or_right (q x) (list_any q xs) (any_more p q h xs later)
]

other_day : (b : Bool) (n : ℤ) (d : NDay) → (weekday_of n == d.day) ≡ false → nday_matches b n d ≡ false
unfolding nday_matches
other_day b n d e = rw e refl

-- no item names the day of the week
pub unnamed_day : (b : Bool) (n : ℤ) (xs : List NDay) → 0 < length xs → list_any (λ d. weekday_of n == d.day) xs ≡ false → false ≡ empty_or_any (nday_matches b n) xs
unnamed_day b n xs some e = sym (asked (nday_matches b n) xs some ∙ any_less (λ d. weekday_of n == d.day) (nday_matches b n) (other_day b n) xs e)

at_every_place : (b : Bool) (n : ℤ) (w : ℕ) (k : Option ℤ) → ((weekday_of n == w) && option_eq int_eq k None) ≡ true → (is_weekday w n && nth_matches b n w k) ≡ true
unfolding nth_matches
at_every_place b n w None e = e
at_every_place b n w (Some k) e = absurd (false_true (and_parts (weekday_of n == w) false e).1)

same_day : (b : Bool) (n : ℤ) (d : NDay) → ((weekday_of n == d.day) && option_eq int_eq d.nth None) ≡ true → nday_matches b n d ≡ true
unfolding nday_matches
same_day b n d e = at_every_place b n d.day d.nth e

-- an item names it without a place
pub named_day : (b : Bool) (n : ℤ) (xs : List NDay) → 0 < length xs → list_any (λ d. (weekday_of n == d.day) && option_eq int_eq d.nth None) xs ≡ true → true ≡ empty_or_any (nday_matches b n) xs
named_day b n xs some e = sym (asked (nday_matches b n) xs some ∙ any_more (λ d. (weekday_of n == d.day) && option_eq int_eq d.nth None) (nday_matches b n) (same_day b n) xs e)
