-- Which days are counted, in a set, and by a last day, over any test of due days.
use Rattle.std.proofs.Common.{◌≡◌, ℕ, ◌⊎◌, inl, inr, Bool, true, refl, ℤ, pos, ◌+ℤ◌, ◌*ℤ◌, ◌<ℤ◌, int_lt}
use Rattle.std.proofs.lemmas.Bool.Decides.{Decides-int_eq}
use Rattle.std.specs.Ordering.{int_eq}
use Rattle.spec_series.specs.Places.{count_from}
use Rattle.spec_series.specs.RuleSets.{is_counted, is_day_of_set, is_by_end, is_within_count}
use Rattle.rule_expand.specs.Sets.{is_by_last, is_up_to}
use Rattle.spec_series.specs.declared.by_part.End.{End}
use Rattle.rule_expand.specs.declared.bound.Bound.{Bound}
use Rattle.rule_expand.proofs.Places.{is_late, late_is}
use Rattle.std.proofs.lemmas.Bool.{or_left, or_right, and_from, or_cases, and_parts}

-- what it takes to be counted
module _ (due : ℤ → Bool) (e : End) (t : ℕ) (d : ℤ) where
  pub counted_start : is_counted due e t d d ≡ true
  unfolding is_counted
  counted_start = or_left (int_eq d d) _ ((Decides-int_eq d d).1 refl)

  pub counted_later : (n : ℤ) → d <ℤ n → due n ≡ true → is_by_end e (n *ℤ pos 86400 +ℤ pos t) ≡ true → is_counted due e t d n ≡ true
  unfolding is_counted
  counted_later n lt g b = or_right (int_eq n d) _ (and_from (int_lt d n) _ (is_late d n lt) (and_from (due n) _ g b))

  pub counted_cases : (n : ℤ) → is_counted due e t d n ≡ true → (n ≡ d) ⊎ ((d <ℤ n) × ((due n ≡ true) × (is_by_end e (n *ℤ pos 86400 +ℤ pos t) ≡ true)))
  unfolding is_counted
  counted_cases n h = elim (or_cases (int_eq n d) _ h) [
    | inl same ↦ inl ((Decides-int_eq n d).0 same)
    | inr more ↦
        let a = and_parts (int_lt d n) _ more in
        let b = and_parts (due n) _ a.1 in
        inr (late_is d n a.0, (b.0, b.1))
  ]

  pub in_cases : (n : ℤ) → is_day_of_set due e t d n ≡ true → (is_counted due e t d n ≡ true) × (is_within_count e (count_from (is_counted due e t d) d n) ≡ true)
  unfolding is_day_of_set
  in_cases n h = and_parts (is_counted due e t d n) _ h

  pub in_by : (n : ℤ) → is_counted due e t d n ≡ true → is_within_count e (count_from (is_counted due e t d) d n) ≡ true → is_day_of_set due e t d n ≡ true
  unfolding is_day_of_set
  in_by n h k = and_from (is_counted due e t d n) _ h k

  pub by_last_cases : (b : Bound) (n : ℤ) → is_by_last due d b n ≡ true → (n ≡ d) ⊎ ((d <ℤ n) × ((due n ≡ true) × (is_up_to b n ≡ true)))
  unfolding is_by_last
  by_last_cases b n h = elim (or_cases (int_eq n d) _ h) [
    | inl same ↦ inl ((Decides-int_eq n d).0 same)
    | inr more ↦
        let x = and_parts (int_lt d n) _ more in
        let y = and_parts (due n) _ x.1 in
        inr (late_is d n x.0, (y.0, y.1))
  ]

  pub by_last_start : (b : Bound) → is_by_last due d b d ≡ true
  unfolding is_by_last
  by_last_start b = or_left (int_eq d d) _ ((Decides-int_eq d d).1 refl)

  pub by_last_later : (b : Bound) (n : ℤ) → d <ℤ n → due n ≡ true → is_up_to b n ≡ true → is_by_last due d b n ≡ true
  unfolding is_by_last
  by_last_later b n lt g u = or_right (int_eq n d) _ (and_from (int_lt d n) _ (is_late d n lt) (and_from (due n) _ g u))
