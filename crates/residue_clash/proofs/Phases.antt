-- The phase of a rule as congruences.
use Rattle.std.proofs.Common.{◌≡◌, inl, inr, ◌==◌, ◌&&◌, ℕ, ◌*◌, ◌<◌, ℤ, pos, negsuc, ◌+ℤ◌, ◌-ℤ◌, ◌*ℤ◌, true, arith, ◌↔◌, ap, sym, ◌∙◌, eq-eqb, refl, unsigned_abs}
use Rattle.std.specs.Int.{int_rem_euclid}
use Rattle.std.proofs.Math.IntN.{*ℤ_comm, pos-*ℤ-pos}
use borrow.Author.Tests.{eqb-true}
use Rattle.spec_time.specs.Floor.{modulo}
use Rattle.jiff_core.proofs.SignedLemmas.{signed_arith}
use Rattle.spec_series.specs.declared.by_part.Freq.{Freq}
use Rattle.spec_series.specs.declared.by_part.Freq.TheVariants.{Daily, Weekly, Monthly, Yearly}
use Rattle.spec_series.specs.declared.rule.Rule.{Rule}
use Rattle.spec_series.specs.Periods.{period_by, period_number, is_in_phase}
use Rattle.residue_solve.specs.Congruence.{Congruent}
use Rattle.residue_solve.proofs.IntRing.{sums}
use Rattle.residue_solve.proofs.CongruenceLemmas.{Congruent-sym, Congruent-trans, Congruent-rem_euclid, Congruent-same_rem_euclid}
use Rattle.rule_expand.proofs.Next.{period-later}
use Rattle.rule_expand.proofs.Places.{and_both, false_true}
use Rattle.rule_expand.proofs.Sets.{or_cases}
use Rattle.spec_series.specs.RuleLimits.{is_empty}
use Rattle.rule_expand.specs.Repeats.{is_up_to_a_week, is_of_weekdays, repeats_after}
use Rattle.residue_clash.specs.Repeats.{periods_of_week, periods_after}
use Rattle.std.specs.Prelude.{Bool, false}
use Rattle.residue_clash.specs.Kinds.{phase_day}

rem_is : (x : ℤ) (i : ℕ) → int_rem_euclid x (pos i) ≡ pos (modulo x i)
rem_is (pos a) i = refl
rem_is (negsuc a) i = refl

-- a day is in phase exactly where its period's number agrees with that of the start's day
pub phase_is : (r : Rule) (s n : ℤ) → (is_in_phase r s n ≡ true) ↔ Congruent (pos r.interval) (period_number r n) (period_number r s)
unfolding is_in_phase
phase_is r s n =
    let x = period_number r n in
    let y = period_number r s in
    let same = Congruent-same_rem_euclid x y r.interval (omega (arith, r.interval_in.0)) in (
      (λ h. same.1 (rem_is x r.interval ∙ ap pos (eqb-true (modulo x r.interval) (modulo y r.interval) h) ∙ sym (rem_is y r.interval))),
      (λ g. eq-eqb (modulo x r.interval) (modulo y r.interval) (ap unsigned_abs (same.0 g))),
    )

-- the number of the period some weeks later
weeks_later : (f : Freq) (w : ℕ) (n : ℤ) (t : ℕ) → is_up_to_a_week f ≡ true → period_by f w (n +ℤ pos (t * 7)) ≡ period_by f w n +ℤ pos (t * periods_of_week f)
unfolding period_by
weeks_later Daily w n t h = refl
weeks_later Weekly w n t h = omega (arith, signed_arith)
weeks_later Monthly w n t h = absurd (false_true h)
weeks_later Yearly w n t h = absurd (false_true h)

-- and some cycles later
pub number_later : (r : Rule) (c : ℕ) → repeats_after r c ≡ true → (n : ℤ) (t : ℕ) → period_number r (n +ℤ pos (t * c)) ≡ period_number r n +ℤ pos t *ℤ pos (periods_after r.frequency c)
number_later r c h n t =
    elim (or_cases (c == 146097) ((c == 7) && is_of_weekdays r) h) [
      | inl whole ↦
          let is : c ≡ 146097 = eqb-true c 146097 whole in
          let there : n +ℤ pos (t * c) ≡ n +ℤ pos t *ℤ pos 146097 = ap (λ x. n +ℤ pos (t * x)) is ∙ ap (λ x. n +ℤ x) (sym (pos-*ℤ-pos t 146097)) in
          ap (period_number r) there ∙ period-later r.frequency r.week_start n (pos t) ∙ ap (λ x. period_number r n +ℤ pos t *ℤ pos (periods_after r.frequency x)) (sym is)
      | inr week ↦
          let p = and_both (c == 7) (is_of_weekdays r) week in
          let is : c ≡ 7 = eqb-true c 7 p.0 in
          let short = and_both (is_up_to_a_week r.frequency) (is_empty r.by_month_day && (is_empty r.by_month && is_empty r.by_year_day)) p.1 in
          ap (λ x. period_number r (n +ℤ pos (t * x))) is ∙ weeks_later r.frequency r.week_start n t short.0
          ∙ ap (λ x. period_number r n +ℤ x) (sym (pos-*ℤ-pos t (periods_of_week r.frequency)))
          ∙ ap (λ x. period_number r n +ℤ pos t *ℤ pos (periods_after r.frequency x)) (sym is)
    ]

-- the congruence on the number of cycles
pub solves_phase : (r : Rule) (c : ℕ) → repeats_after r c ≡ true → (s n start here a b : ℤ) → start ≡ period_number r s → here ≡ period_number r n → a ≡ pos (periods_after r.frequency c) → b ≡ int_rem_euclid (start -ℤ here) (pos r.interval)
    → (t : ℕ) → Congruent (pos r.interval) (a *ℤ pos t) b ↔ (is_in_phase r s (n +ℤ pos (t * c)) ≡ true)
solves_phase r c h s n start here a b es eh ea eb t =
    let i = pos r.interval in
    let some : 0 < r.interval = omega (arith, r.interval_in.0) in
    let rest = Congruent-rem_euclid (start -ℤ here) r.interval some in
    let later = number_later r c h n t in
    let turns : a *ℤ pos t ≡ pos t *ℤ pos (periods_after r.frequency c) = ap (λ x. x *ℤ pos t) ea ∙ *ℤ_comm (pos (periods_after r.frequency c)) (pos t) in (
      (λ g.
          let k = Congruent-trans i (a *ℤ pos t) (int_rem_euclid (start -ℤ here) i) (start -ℤ here) (rw eb at g) (Congruent-sym i (start -ℤ here) (int_rem_euclid (start -ℤ here) i) rest) in
          (phase_is r s (n +ℤ pos (t * c))).1 (k.0, omega (arith, sums, k.1, later, turns, es, eh))),
      (λ p.
          let g = (phase_is r s (n +ℤ pos (t * c))).0 p in
          let k : Congruent i (a *ℤ pos t) (start -ℤ here) = (g.0, omega (arith, sums, g.1, later, turns, es, eh)) in
          rw eb (Congruent-trans i (a *ℤ pos t) (start -ℤ here) (int_rem_euclid (start -ℤ here) i) k rest)),
    )

-- the day that is to be in phase so many days later
pub phase_later : (kind : Bool) (n : ℤ) (k : ℕ) → phase_day kind (n +ℤ pos k) ≡ phase_day kind n +ℤ pos k
phase_later false n k = refl
phase_later true n k = omega (arith, signed_arith)
