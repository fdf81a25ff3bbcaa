-- The set of a rule, over any test of its due days.
pub use Rattle.std.proofs.lemmas.Bool.{or_left, or_right, and_from as both_and, or_cases, false_from_ne_true as not_true}
pub use Rattle.spec_json.proofs.Booleans.{same_truth}
pub use Rattle.civil_days.proofs.Orders.{int_le_is, is_int_le}
pub use Rattle.rule_expand.proofs.DueDays.{due_day, day_due}
pub use Rattle.rule_expand.proofs.CountedDays.{counted_start, counted_later, counted_cases, in_cases, in_by, by_last_cases, by_last_start, by_last_later}
pub use Rattle.rule_expand.proofs.LastDays.{set_is}
use Rattle.std.proofs.Common.{◌≡◌, ℕ, zero, suc, ◌+◌, ◌-◌, ◌≤◌, inl, inr, Bool, true, false, refl, sym, ◌∙◌, arith, ℤ, pos, ◌+ℤ◌, ◌-ℤ◌, ◌*ℤ◌, ◌<ℤ◌, ◌≤ℤ◌, int_le, nat_le}
use Rattle.std.proofs.lemmas.Bool.Decides.{nat_tests}
use Rattle.jiff_core.proofs.SignedLemmas.{signed_arith}
use Rattle.spec_series.specs.Places.{count_from}
use Rattle.spec_series.specs.RuleSets.{is_in_set, is_due, is_counted, is_day_of_set, is_by_end, is_within_count}
use Rattle.spec_time.specs.Walls.{day_of_wall, second_of_wall}
use Rattle.spec_time.specs.Floor.{floor_div}
use Rattle.rule_expand.specs.Sets.{is_by_last, is_up_to, IsNext, IsBound, IsFirstFrom}
use Rattle.spec_series.specs.declared.rule.Rule.{Rule}
use Rattle.spec_series.specs.declared.by_part.End.{End}
use Rattle.spec_series.specs.declared.by_part.End.TheVariants.{Never, Count, Until}
use Rattle.rule_expand.specs.declared.bound.Bound.{Bound}
use Rattle.rule_expand.specs.declared.bound.Bound.TheVariants.{Endless, Last}
use Rattle.rule_expand.proofs.Cycle.{count_from-after}
use Rattle.spec_series.specs.RuleLimits.{is_end}
use Rattle.rule_expand.specs.Sets.{IsEnd}
use Rattle.rule_expand.proofs.Range.{years_near}
use Rattle.rule_expand.proofs.Places.{count_le}
use Rattle.std.proofs.lemmas.Bool.{false_from_ne_true, and_parts}
use borrow.Author.Differences.{up, down}
use Rattle.rule_expand.proofs.LastDays.{count_first, by_until, until_by, greatest_same}

-- a rule's end, by its limits
end_is : (e : End) → is_end e ≡ true → IsEnd e
end_is Never h = tt
end_is (Count c) h = let p = and_parts (nat_le 1 c) (nat_le c 1000) h in (grind (arith, nat_tests), grind (arith, nat_tests))
end_is (Until u) h = years_near u h

count_mono : (p : ℤ → Bool) (d n m : ℤ) → d ≤ℤ n → n ≤ℤ m → count_from p d n ≤ count_from p d m
count_mono p d n m low le =
    let a = up n + down d - (down n + up d) in
    let b = up m + down d - (down m + up d) in
    omega (arith, count_from-after p d n a (omega (arith, signed_arith, low)), count_from-after p d m b (omega (arith, signed_arith, low, le)), count_le p d (a + 1) (b + 1) (omega (arith, signed_arith, le)))

le_trans_count : (a b c : ℕ) → a ≤ b → nat_le b c ≡ true → nat_le a c ≡ true
le_trans_count a b c h k = grind (arith, nat_tests)

module _ (due : ℤ → Bool) (t : ℕ) (d : ℤ) where
  within_less : (e : End) (a b : ℕ) → a ≤ b → is_within_count e b ≡ true → is_within_count e a ≡ true
  within_less Never a b h k = refl
  within_less (Until u) a b h k = refl
  within_less (Count c) a b h k = le_trans_count a b c h k

  end_less : (e : End) (n m : ℤ) → n ≤ℤ m → is_by_end e (m *ℤ pos 86400 +ℤ pos t) ≡ true → is_by_end e (n *ℤ pos 86400 +ℤ pos t) ≡ true
  end_less Never n m h k = refl
  end_less (Count c) n m h k = refl
  end_less (Until u) n m h k = is_int_le (n *ℤ pos 86400 +ℤ pos t) u (omega (arith, signed_arith, h, int_le_is (m *ℤ pos 86400 +ℤ pos t) u k))

  pub in_from : (e : End) (n : ℤ) → is_day_of_set due e t d n ≡ true → d ≤ℤ n
  in_from e n h = elim (counted_cases due e t d n (in_cases due e t d n h).0) [ inl same ↦ omega (arith, signed_arith) | inr more ↦ omega (arith, signed_arith, more.0) ]

  pub in_good : (e : End) (n : ℤ) → d <ℤ n → is_day_of_set due e t d n ≡ true → due n ≡ true
  in_good e n lt h = elim (counted_cases due e t d n (in_cases due e t d n h).0) [ inl same ↦ absurd (omega (arith, signed_arith, same, lt)) | inr more ↦ more.1.0 ]

  -- the first day is in the set
  pub start_in : (e : End) → IsEnd e → is_day_of_set due e t d d ≡ true
  start_in Never h = in_by due Never t d d (counted_start due Never t d) refl
  start_in (Until u) h = in_by due (Until u) t d d (counted_start due (Until u) t d) refl
  start_in (Count c) h =
      let one : count_from (is_counted due (Count c) t d) d d ≡ 1 = (count_first due c t d).count in
      in_by due (Count c) t d d (counted_start due (Count c) t d) (rw one (grind (arith, nat_tests, h.0)))

  -- a due day before one of the set is in the set
  pub in_between : (e : End) (n m : ℤ) → d <ℤ n → due n ≡ true → n ≤ℤ m → is_day_of_set due e t d m ≡ true → is_day_of_set due e t d n ≡ true
  in_between e n m lt g le h =
      let x = in_cases due e t d m h in
      let ends : is_by_end e (m *ℤ pos 86400 +ℤ pos t) ≡ true = elim (counted_cases due e t d m x.0) [ inl same ↦ absurd (omega (arith, signed_arith)) | inr more ↦ more.1.1 ] in
      let u = counted_later due e t d n lt g (end_less e n m le ends) in
      in_by due e t d n u (within_less e _ _ (count_mono (is_counted due e t d) d n m (omega (arith, signed_arith, lt)) le) x.1)

  -- a set without a greatest day goes on past each day
  beyond : (p : ℤ → Bool) → ((n : ℤ) → p n ≡ true → (m : ℤ) × ((n <ℤ m) × (p m ≡ true))) → p d ≡ true → (k : ℕ) → (m : ℤ) × (((d +ℤ pos k) ≤ℤ m) × (p m ≡ true))
  beyond p more h zero = (d, (omega (arith, signed_arith), h))
  beyond p more h (suc k) =
      let x = beyond p more h k in
      let y = more x.0 x.1.1 in
      (y.0, (omega (arith, signed_arith, x.1.0, y.1.0), y.1.1))

  -- the set by its last day
  pub set_by_last : (e : End) (b : Bound) → IsEnd e → IsBound (is_day_of_set due e t d) b → (n : ℤ) → is_day_of_set due e t d n ≡ is_by_last due d b n
  set_by_last e Endless end bound n = same_truth (is_day_of_set due e t d n) (is_by_last due d Endless n)
      (λ h. elim (counted_cases due e t d n (in_cases due e t d n h).0) [
        | inl same ↦ rw same (by_last_start due Never t d Endless)
        | inr more ↦ by_last_later due Never t d Endless n more.0 more.1.0 refl
      ])
      (λ h. elim (by_last_cases due Never t d Endless n h) [
        | inl same ↦ rw same (start_in e end)
        | inr more ↦
            let k = up n + down d - (down n + up d) in
            let m = beyond (is_day_of_set due e t d) bound (start_in e end) k in
            in_between e n m.0 more.0 more.1.0 (omega (arith, signed_arith, m.1.0, more.0)) m.1.1
      ])
  set_by_last e (Last last) end bound n = same_truth (is_day_of_set due e t d n) (is_by_last due d (Last last) n)
      (λ h. elim (counted_cases due e t d n (in_cases due e t d n h).0) [
        | inl same ↦ rw same (by_last_start due Never t d (Last last))
        | inr more ↦ by_last_later due Never t d (Last last) n more.0 more.1.0 (is_int_le n last (bound.1 n h))
      ])
      (λ h. elim (by_last_cases due Never t d (Last last) n h) [
        | inl same ↦ rw same (start_in e end)
        | inr more ↦ in_between e n last more.0 more.1.0 (int_le_is n last more.1.1) bound.0
      ])

  -- whether a due day is in the set
  pub within_until : (u n high : ℤ) → d <ℤ n → due n ≡ true → high ≡ floor_div (u -ℤ pos t) 86400 → int_le n high ≡ is_day_of_set due (Until u) t d n
  within_until u n high lt g e = same_truth (int_le n high) (is_day_of_set due (Until u) t d n)
      (λ le. in_by due (Until u) t d n (counted_later due (Until u) t d n lt g (until_by u n t (rw e at (int_le_is n high le)))) refl)
      (λ x. elim (counted_cases due (Until u) t d n (in_cases due (Until u) t d n x).0) [
        | inl same ↦ absurd (omega (arith, signed_arith, same, lt))
        | inr more ↦ is_int_le n high (rw e (by_until u n t more.1.1))
      ])

  pub within_never : (n : ℤ) → d <ℤ n → due n ≡ true → true ≡ is_day_of_set due Never t d n
  within_never n lt g = sym (in_by due Never t d n (counted_later due Never t d n lt g refl) refl)

-- the same of a rule's set
module _ (r : Rule) (start d : ℤ) (hd : d ≡ day_of_wall start) where
  same : (n : ℤ) → is_in_set r start n ≡ is_day_of_set (is_due r d) r.end (second_of_wall start) d n
  same n = set_is r start d r.end (second_of_wall start) hd refl refl n

  pub set_start : is_in_set r start d ≡ true
  set_start = same d ∙ start_in (is_due r d) (second_of_wall start) d r.end (end_is r.end r.end_in)

  pub set_from : (n : ℤ) → is_in_set r start n ≡ true → d ≤ℤ n
  set_from n h = in_from (is_due r d) (second_of_wall start) d r.end n (sym (same n) ∙ h)

  pub set_good : (n : ℤ) → d <ℤ n → is_in_set r start n ≡ true → is_due r d n ≡ true
  set_good n lt h = in_good (is_due r d) (second_of_wall start) d r.end n lt (sym (same n) ∙ h)

  pub set_between : (n m : ℤ) → d <ℤ n → is_due r d n ≡ true → n ≤ℤ m → is_in_set r start m ≡ true → is_in_set r start n ≡ true
  set_between n m lt g le h = same n ∙ in_between (is_due r d) (second_of_wall start) d r.end n m lt g le (sym (same m) ∙ h)

  bound_same : (b : Bound) → IsBound (is_in_set r start) b → IsBound (is_day_of_set (is_due r d) r.end (second_of_wall start) d) b
  bound_same Endless h = λ n k. let m = h n (same n ∙ k) in (m.0, (m.1.0, sym (same m.0) ∙ m.1.1))
  bound_same (Last last) h = greatest_same (is_day_of_set (is_due r d) r.end (second_of_wall start) d) (is_in_set r start) last (λ n. sym (same n)) h

  -- S1: the rule's set by its last day
  pub rule_set_by_last : (b : Bound) → IsBound (is_in_set r start) b → (n : ℤ) → is_in_set r start n ≡ is_by_last (is_due r d) d b n
  rule_set_by_last b h n = same n ∙ set_by_last (is_due r d) (second_of_wall start) d r.end b (end_is r.end r.end_in) (bound_same b h) n

  pub first_start : (from : ℤ) → from ≤ℤ d → IsFirstFrom (is_in_set r start) from d
  first_start from le = record { late = le; is = set_start; least = λ m low h. set_from m h }

  pub none_from : (from : ℤ) (b : Bound) → d <ℤ from → ((m : ℤ) → (from -ℤ pos 1) <ℤ m → is_up_to b m ≡ true → is_due r d m ≡ true → ⊥) → (n : ℤ) → from ≤ℤ n → is_up_to b n ≡ true → is_in_set r start n ≡ true → ⊥
  none_from from b lt none n le by h = none n (omega (arith, signed_arith, le)) by (set_good n (omega (arith, signed_arith, lt, le)) h)

  pub first_found : (from n : ℤ) → d <ℤ from → IsNext (is_due r d) (from -ℤ pos 1) n → is_in_set r start n ≡ true → IsFirstFrom (is_in_set r start) from n
  first_found from n lt next h = record {
    late = omega (arith, signed_arith, next.past);
    is = h;
    least = λ m low k. next.least m (omega (arith, signed_arith, low)) (set_good m (omega (arith, signed_arith, lt, low)) k);
  }

  pub none_found : (from n : ℤ) → d <ℤ from → IsNext (is_due r d) (from -ℤ pos 1) n → is_in_set r start n ≡ false → (m : ℤ) → from ≤ℤ m → is_in_set r start m ≡ true → ⊥
  none_found from n lt next h m le k =
      let past : d <ℤ m = omega (arith, signed_arith, lt, le) in
      let x = set_between n m (omega (arith, signed_arith, lt, next.past)) next.is (next.least m (omega (arith, signed_arith, le)) (set_good m past k)) k in
      cc

  pub is_within_never : (n : ℤ) → r.end ≡ Never → d <ℤ n → is_due r d n ≡ true → true ≡ is_in_set r start n
  is_within_never n e lt g = within_never (is_due r d) (second_of_wall start) d n lt g ∙ sym (set_is r start d Never (second_of_wall start) hd e refl n)

  pub is_within_count_of : (c : ℕ) (n : ℤ) (b : Bool) → r.end ≡ Count c → ((t : ℕ) → b ≡ is_day_of_set (is_due r d) (Count c) t d n) → b ≡ is_in_set r start n
  is_within_count_of c n b e h = h (second_of_wall start) ∙ sym (set_is r start d (Count c) (second_of_wall start) hd e refl n)

  pub is_within_until : (u n high : ℤ) (t : ℕ) (b : Bool) → r.end ≡ Until u → d <ℤ n → is_due r d n ≡ true → t ≡ second_of_wall start → high ≡ floor_div (u -ℤ pos t) 86400 → b ≡ int_le n high → b ≡ is_in_set r start n
  is_within_until u n high t b e lt g ht hh hb =
      hb ∙ within_until (is_due r d) t d u n high lt g hh ∙ sym (set_is r start d (Until u) t hd e ht n)

  -- a day that isn't the start's, before it or not due, isn't in the set
  pub not_early : (n : ℤ) → n <ℤ d → false ≡ is_in_set r start n
  not_early n lt = sym (false_from_ne_true (is_in_set r start n) (λ h. absurd (omega (arith, signed_arith, lt, set_from n h))))

  pub not_due : (n : ℤ) → d <ℤ n → is_due r d n ≡ false → false ≡ is_in_set r start n
  not_due n lt g = sym (false_from_ne_true (is_in_set r start n) (λ h. let x = set_good n lt h in cc))
