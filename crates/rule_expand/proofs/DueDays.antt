-- The due days of a rule, one after the other.
use Rattle.std.proofs.Common.{◌≡◌, ℕ, ◌*◌, ◌&&◌, true, inl, inr, refl, sym, ap, ◌∙◌, arith, eq-eqb, ℤ, pos, ◌+ℤ◌, ◌-ℤ◌, ◌<ℤ◌, ◌≤ℤ◌, Option, Some, None, IfSome}
use Rattle.std.proofs.lemmas.Int.{by_lt_z}
use Rattle.jiff_core.proofs.SignedLemmas.{signed_arith}
use Rattle.spec_series.specs.Periods.{period_number, is_in_phase}
use Rattle.spec_time.specs.Floor.{modulo}
use borrow.Author.Tests.{eqb-true}
use Rattle.spec_series.specs.RuleSets.{is_kept, is_moved, is_native, moved_from, is_due}
use Rattle.rule_expand.specs.Sets.{IsNext}
use Rattle.rule_expand.specs.Walk.{periods, IsPhaseDay, IsNextDay}
use Rattle.spec_series.specs.declared.rule.Rule.{Rule}
use Rattle.rule_expand.proofs.Cycle.{later, is_kept-cycle, is_moved-cycle, moved_from-cycle}
use Rattle.rule_expand.proofs.Next.{period-later}
use Rattle.rule_expand.proofs.Remainder.{modulo-steps}
use Rattle.std.proofs.Math.Nat.{mul_assoc, mul_comm}
use Rattle.std.proofs.lemmas.Bool.{and_from, and_parts, or_cases, or_left, or_right}

-- a due day after another, by the period that gives it
pub due_day : (r : Rule) (s a n : ℤ) → a <ℤ n → is_due r s n ≡ true → IsPhaseDay r s a n
unfolding is_due is_in_phase
due_day r s a n lt h =
    elim (or_cases (is_native r s n) (is_moved r n && is_in_phase r s (moved_from r.skip n)) h) [
      | inl native ↦
          let b = and_parts (is_kept r n) (is_in_phase r s n) native in
          record { past = lt; number = period_number r n; given = inl (refl, b.0); phase = eqb-true (modulo (period_number r n) r.interval) (modulo (period_number r s) r.interval) b.1 }
      | inr moved ↦
          let m = moved_from r.skip n in
          let b = and_parts (is_moved r n) (is_in_phase r s m) moved in
          record { past = lt; number = period_number r m; given = inr (refl, b.0); phase = eqb-true (modulo (period_number r m) r.interval) (modulo (period_number r s) r.interval) b.1 }
    ]

in_phase_by : (r : Rule) (s n p : ℤ) → period_number r n ≡ p → modulo p r.interval ≡ modulo (period_number r s) r.interval → is_in_phase r s n ≡ true
unfolding is_in_phase
in_phase_by r s n p own phase = eq-eqb (modulo (period_number r n) r.interval) (modulo (period_number r s) r.interval) (ap (λ x. modulo x r.interval) own ∙ phase)

pub day_due : (r : Rule) (s a n : ℤ) → IsPhaseDay r s a n → is_due r s n ≡ true
unfolding is_due
day_due r s a n h =
    elim h.given [
      | inl (own, kept) ↦ or_left (is_native r s n) (is_moved r n && is_in_phase r s (moved_from r.skip n)) (and_from (is_kept r n) (is_in_phase r s n) kept (in_phase_by r s n h.number own h.phase))
      | inr (own, moved) ↦
          or_right (is_native r s n) (is_moved r n && is_in_phase r s (moved_from r.skip n))
          (and_from (is_moved r n) (is_in_phase r s (moved_from r.skip n)) moved (in_phase_by r s (moved_from r.skip n) h.number own h.phase))
    ]

pub next_is : (r : Rule) (s a n : ℤ) → IsNextDay r s a n → IsNext (is_due r s) a n
next_is r s a n h = record {
  past = h.here.past;
  is = day_due r s a n h.here;
  least = λ m lt g. h.least m (due_day r s a m lt g);
}

-- as many cycles later as some times the interval, a day has the same phase
phase_again : (r : Rule) (s m n : ℤ) (k : ℕ) → n ≡ later m (pos (k * r.interval)) → is_in_phase r s n ≡ is_in_phase r s m
unfolding is_in_phase
phase_again r s m n k e =
    let i = r.interval in
    let P = periods r.frequency in
    let turned : k * i * P ≡ k * P * i = mul_assoc k i P ∙ ap (λ x. k * x) (mul_comm i P) ∙ sym (mul_assoc k P i) in
    let moved : period_number r n ≡ period_number r m +ℤ pos (k * P * i) =
    ap (period_number r) e ∙ period-later r.frequency r.week_start m (pos (k * i)) ∙ ap (λ x. period_number r m +ℤ pos x) turned in
    let same = modulo-steps i (k * P) (period_number r m) (period_number r n) r.interval_in.0 moved in
    rw same refl

-- and is due again
pub due_again : (r : Rule) (s m n : ℤ) (k : ℕ) → n ≡ later m (pos (k * r.interval)) → is_due r s n ≡ is_due r s m
unfolding is_due
due_again r s m n k e =
    let q = pos (k * r.interval) in
    let kept : is_kept r n ≡ is_kept r m = ap (is_kept r) e ∙ is_kept-cycle r m q in
    let moved : is_moved r n ≡ is_moved r m = ap (is_moved r) e ∙ is_moved-cycle r m q in
    let origin : moved_from r.skip n ≡ later (moved_from r.skip m) q = ap (moved_from r.skip) e ∙ moved_from-cycle r.skip m q in
    rw (kept, moved, phase_again r s m n k e, phase_again r s (moved_from r.skip m) (moved_from r.skip n) k origin) refl

due-later : (r : Rule) (s n m : ℤ) → m ≡ later n (pos r.interval) → is_due r s m ≡ is_due r s n
due-later r s n m e =
    let one : 1 * r.interval ≡ r.interval = omega arith in
    due_again r s n m 1 (e ∙ ap (λ x. later n (pos x)) (sym one))

-- a rule with one due day has a later one
pub endless_due : (r : Rule) (s n : ℤ) → is_due r s n ≡ true → (m : ℤ) × ((n <ℤ m) × (is_due r s m ≡ true))
endless_due r s n h =
    let m = later n (pos r.interval) in
    (m, (omega (arith, signed_arith, r.interval_in.0), due-later r s n m refl ∙ h))

-- the next due day is near
pub next_near : (r : Rule) (s a n : ℤ) → IsNext (is_due r s) a n → n ≤ℤ (a +ℤ pos 146097000)
next_near r s a n h =
    let m = n -ℤ pos (r.interval * 146097) in
    let e : n ≡ later m (pos r.interval) = omega (arith, signed_arith) in
    by_lt_z a m
    (λ lt. absurd (omega (arith, signed_arith, h.least m lt (sym (due-later r s m n e) ∙ h.is), r.interval_in.0)))
    (λ ge. omega (arith, signed_arith, ge, r.interval_in.1))

pub next_some : (r : Rule) (s a : ℤ) (o : Option ℤ) → IfSome o (IsNextDay r s a) → IfSome o (IsNext (is_due r s) a)
next_some r s a None h = tt
next_some r s a (Some n) h = next_is r s a n h

pub near_some : (r : Rule) (s a : ℤ) (o : Option ℤ) → IfSome o (IsNextDay r s a) → IfSome o (λ n. n ≤ℤ (a +ℤ pos 146097000))
near_some r s a None h = tt
near_some r s a (Some n) h = next_near r s a n (next_is r s a n h)
