-- No day before the next place that is asked for is kept.
use Rattle.std.proofs.Common.{◌≡◌, ℕ, ◌+◌, ◌-◌, ◌*◌, ◌/◌, ◌<◌, ◌≤◌, true, false, sym, ap, ◌∙◌, arith, ℤ, pos, ◌+ℤ◌, length}
use Rattle.std.proofs.Math.Nat.{div-mul-le_self}
use Rattle.std.specs.List.{list_any}
use Rattle.jiff_core.proofs.SignedLemmas.{signed_arith}
use Rattle.spec_json.proofs.Booleans.{by_bool}
use Rattle.spec_series.specs.declared.rule.Rule.{Rule}
use Rattle.spec_series.specs.Places.{count_days, is_place}
use Rattle.spec_series.specs.RuleSets.{day_matches, is_kept}
use Rattle.rule_expand.specs.Repeats.{repeats_weekly}
use Rattle.rule_expand.specs.Walk.{IsWholePeriod}
use Rattle.rule_expand.proofs.Again.{weekly_matches}
use Rattle.rule_expand.proofs.Cycle.{count_days-none, is_kept-not}
use Rattle.rule_expand.proofs.NextItem.{asked}
use Rattle.rule_expand.proofs.Places.{both_parts, count_le, count_one, count_split, kept_by_place}
use Rattle.rule_expand.proofs.Weeks.{weeks}

-- the first `passed` days of a period, the days from then on, and how many of both match
module _ (r : Rule) (first from : ℤ) (count passed before left week unasked : ℕ)
    (weekly : repeats_weekly r ≡ true) (some : 0 < length r.by_set) (whole : IsWholePeriod r first count) (low : passed ≤ count)
    (f : from ≡ first +ℤ pos passed) (b : before ≡ count_days (day_matches r) first passed) (l : left ≡ count_days (day_matches r) from (count - passed))
    (w : week ≡ count_days (day_matches r) from 7) (none : (j : ℕ) → j < unasked → list_any (is_place (before + j + 1) (left - j)) r.by_set ≡ false) where
  -- so many match in whole weeks
  in_weeks : (n : ℕ) → n ≤ (unasked / week) * 7 → count_days (day_matches r) from n ≤ unasked
  in_weeks n h =
      let all = weeks (day_matches r) (weekly_matches r weekly) from (unasked / week) 0 in
      let e : (unasked / week) * 7 + 0 ≡ (unasked / week) * 7 = omega arith in
      let m = count_le (day_matches r) from n ((unasked / week) * 7) h in
      let d = div-mul-le_self unasked week in
      let t : count_days (day_matches r) from ((unasked / week) * 7) ≡ (unasked / week) * week = ap (count_days (day_matches r) from) (sym e) ∙ all ∙ rw (count_days-none (day_matches r) from, ← w) (omega arith) in
      omega (arith, m, t, d)

  -- a matching day, i days later
  matching_unkept : (i : ℕ) (n : ℤ) → i + 1 ≤ (unasked / week) * 7 → passed + i < count → n ≡ from +ℤ pos i → day_matches r n ≡ true → is_kept r n ≡ false
  matching_unkept i n h lt e m =
      let q = count_days (day_matches r) from i in
      let one : count_days (day_matches r) from (i + 1) ≡ q + 1 = count_one (day_matches r) from i n e m in
      let asked_none : list_any (is_place (before + q + 1) (left - q)) r.by_set ≡ false = none q (omega (arith, one, in_weeks (i + 1) h)) in
      let k : (passed + i) + 1 ≡ (i + 1) + passed = omega arith in
      let split = count_split (day_matches r) first passed (i + 1) in
      let behind : count_days (day_matches r) (first +ℤ pos passed) (i + 1) ≡ count_days (day_matches r) from (i + 1) = ap (λ x. count_days (day_matches r) x (i + 1)) (sym f) in
      let place : before + q + 1 ≡ count_days (day_matches r) first ((passed + i) + 1) = omega (arith, b, one, ap (count_days (day_matches r) first) k, split, behind) in
      let total = both_parts (day_matches r) first passed count before left from low f b l in
      let here : n ≡ first +ℤ pos (passed + i) = omega (arith, signed_arith, e, f) in
      let p = whole (passed + i) lt in
      let back : before + left + 1 - (before + q + 1) ≡ left - q = omega arith in
      let all = asked (is_place (before + q + 1) (left - q)) r.by_set some in
      sym (kept_by_place r first n (passed + i) count (before + q + 1) (before + left) false lt here m (rw here p.0) (rw here p.1) place total (rw back (sym (all ∙ asked_none))))

  pub unasked_unkept : (found k : ℕ) → found ≤ (unasked / week) * 7 → passed + found ≤ count → passed ≤ k → k < passed + found → is_kept r (first +ℤ pos k) ≡ false
  unasked_unkept found k h small past lt = by_bool (day_matches r (first +ℤ pos k))
      (λ e.
      let i = k - passed in
      matching_unkept i (first +ℤ pos k) (omega (arith, h, past, lt)) (omega (arith, small, past, lt)) (omega (arith, signed_arith, f, past)) e)
      (λ e. sym (is_kept-not r (first +ℤ pos k) e))
