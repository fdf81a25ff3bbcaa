-- Days that a rule doesn't keep, by their weekday or month alone.
use Rattle.std.proofs.Common.{◌≡◌, ℕ, ℤ, pos, Bool, true, false, ◌==◌, List, [], ◌∷◌, refl, sym, ap, ◌∙◌}
use Rattle.std.specs.List.{list_any}
use Rattle.std.specs.Ordering.{int_eq}
use Rattle.std.proofs.lemmas.Bool.{and_left, and_right, or_from, or_parts}
use Rattle.spec_time.specs.CivilDay.{weekday_of, month_of}
use Rattle.spec_series.specs.declared.by_part.NDay.{NDay}
use Rattle.spec_series.specs.declared.rule.Rule.{Rule}
use Rattle.spec_series.specs.Places.{empty_or_any}
use Rattle.spec_series.specs.RuleSets.{nday_matches, month_day_matches, month_matches, year_day_matches, counts_in_month, day_matches, is_kept, is_moved}
use Rattle.rule_expand.proofs.Cycle.{is_kept-not}
use Rattle.residue_clash.specs.Kinds.{days_of, is_backward, is_forward}

-- a test that asks for more
none_more : {A : Type 0} (p q : A → Bool) → ((x : A) → p x ≡ false → q x ≡ false) → (xs : List A) → list_any p xs ≡ false → list_any q xs ≡ false
none_more p q h [] e = refl
none_more p q h (x ∷ xs) e =
    let both = or_parts (p x) (list_any p xs) e in
    or_from (q x) (list_any q xs) (h x both.0) (none_more p q h xs both.1)

empty_more : {A : Type 0} (p q : A → Bool) → ((x : A) → p x ≡ false → q x ≡ false) → (xs : List A) → empty_or_any p xs ≡ false → empty_or_any q xs ≡ false
empty_more p q h [] e = absurd (cc e)
empty_more p q h (x ∷ xs) e = none_more p q h (x ∷ xs) e

unmatched_month : (r : Rule) (n : ℤ) (m : ℕ) → m ≡ month_of n → empty_or_any (λ k. int_eq k (pos m)) r.by_month ≡ false → day_matches r n ≡ false
unfolding day_matches month_matches
unmatched_month r n m e h =
    let b = counts_in_month r.frequency r.by_month in
    and_right (empty_or_any (nday_matches b n) r.by_day) _
    (and_right (empty_or_any (month_day_matches n) r.by_month_day) _
    (and_left (empty_or_any (λ k. int_eq k (pos (month_of n))) r.by_month) (empty_or_any (year_day_matches n) r.by_year_day)
    (ap (λ x. empty_or_any (λ k. int_eq k (pos x)) r.by_month) (sym e) ∙ h)))

unmatched_weekday : (r : Rule) (n : ℤ) (w : ℕ) → w ≡ weekday_of n → empty_or_any (λ d. w == d.day) r.by_day ≡ false → day_matches r n ≡ false
unfolding day_matches nday_matches
unmatched_weekday r n w e h =
    let b = counts_in_month r.frequency r.by_month in
    and_left (empty_or_any (nday_matches b n) r.by_day) _
    (empty_more (λ (d : NDay). w == d.day) (nday_matches b n)
    (λ d g. and_left (weekday_of n == d.day) _ (ap (λ x. x == d.day) (sym e) ∙ g)) r.by_day h)

pub unkept_month : (r : Rule) (n : ℤ) (m : ℕ) → m ≡ month_of n → empty_or_any (λ k. int_eq k (pos m)) r.by_month ≡ false → false ≡ is_kept r n
unkept_month r n m e h = is_kept-not r n (unmatched_month r n m e h)

pub unkept_weekday : (r : Rule) (n : ℤ) (w : ℕ) → w ≡ weekday_of n → empty_or_any (λ d. w == d.day) r.by_day ≡ false → false ≡ is_kept r n
unkept_weekday r n w e h = is_kept-not r n (unmatched_weekday r n w e h)

-- what a rule without days to move to doesn't keep
pub days_unkept : (kind : Bool) (r : Rule) (n : ℤ) → kind ≡ false → is_backward r.skip ≡ false → is_kept r n ≡ false → days_of kind r n ≡ false
unfolding days_of
days_unkept false r n e b k = rw (k, b) refl
days_unkept true r n e b k = absurd (cc e)

-- and what a rule doesn't move to
pub days_unmoved : (kind : Bool) (r : Rule) (n : ℤ) → kind ≡ true → is_moved r n ≡ false → days_of kind r n ≡ false
unfolding days_of
days_unmoved true r n e m = and_right (is_forward r.skip) (is_moved r n) m
days_unmoved false r n e m = absurd (cc e)
