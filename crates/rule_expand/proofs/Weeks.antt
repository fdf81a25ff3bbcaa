-- Days that match every week the same, counted by those of one week.
use Rattle.std.proofs.Common.{◌≡◌, ℕ, zero, suc, ◌+◌, ◌*◌, ◌/◌, ◌%◌, ◌≤◌, Bool, sym, ap, ◌∙◌, arith, ℤ, pos, ◌+ℤ◌}
use Rattle.spec_json.proofs.Booleans.{by_bool}
use Rattle.spec_series.specs.Places.{count_days}
use Rattle.rule_expand.proofs.Again.{count_days-week, week_later}
use Rattle.rule_expand.proofs.Places.{count_split}

-- no more days match than there are
pub count_small : (p : ℤ → Bool) (first : ℤ) (k : ℕ) → count_days p first k ≤ k
unfolding count_days
count_small p first zero = omega arith
count_small p first (suc k) = by_bool (p (first +ℤ pos k))
    (λ e. rw e (omega (arith, count_small p first k)))
    (λ e. rw e (omega (arith, count_small p first k)))

module _ (p : ℤ → Bool) (h : (n : ℤ) → p (week_later n) ≡ p n) (first : ℤ) where
  pub weeks : (w r : ℕ) → count_days p first (w * 7 + r) ≡ w * count_days p first 7 + count_days p first r
  weeks zero r = let e : 0 * 7 + r ≡ r = omega arith in rw e (omega arith)
  weeks (suc w) r =
      let e : suc w * 7 + r ≡ (w * 7 + r) + 7 = omega arith in
      let split = count_split p first 7 (w * 7 + r) in
      let same = count_days-week p h first (w * 7 + r) in
      rw e (split ∙ rw (same, weeks w r) (omega arith))

  pub by_weeks : (k : ℕ) → (k / 7) * count_days p first 7 + count_days p first (k % 7) ≡ count_days p first k
  by_weeks k =
      let e : (k / 7) * 7 + k % 7 ≡ k = omega arith in
      sym (weeks (k / 7) (k % 7)) ∙ ap (count_days p first) e
