-- The days of a rule's set by its track.
use Rattle.std.proofs.Common.{◌≡◌, ◌⊎◌, inl, inr, ℤ, true, sym, ◌∙◌, refl}
use Rattle.spec_series.specs.declared.rule.Rule.{Rule}
use Rattle.spec_series.specs.Periods.{is_in_phase}
use Rattle.std.proofs.Common.{Bool, false, ◌&&◌, ◌||◌, pos, ◌-ℤ◌}
use Rattle.std.proofs.Math.Bool.{or-false}
use Rattle.spec_series.specs.declared.by_part.Skip.{Skip}
use Rattle.spec_series.specs.declared.by_part.Skip.TheVariants.{Omit, Backward, Forward}
use Rattle.spec_series.specs.RuleSets.{is_kept, is_due, is_in_set, is_moved, is_overflow, moved_from, moves}
use Rattle.spec_time.specs.Walls.{second_of_wall}
use Rattle.rule_expand.proofs.Places.{and_both}
use Rattle.residue_clash.specs.Kinds.{days_of, has_kind, is_backward, is_forward, phase_by}
use Rattle.spec_time.specs.Walls.{day_of_wall}
use Rattle.rule_expand.specs.Sets.{IsBound, is_up_to}
use Rattle.rule_expand.specs.declared.bound.Bound.{Bound}
use Rattle.rule_expand.specs.declared.bound.Bound.TheVariants.{Endless, Last}
use Rattle.rule_expand.proofs.Sets.{both_and, counted_cases, in_cases, or_cases, or_left, or_right, set_is, int_le_is, is_int_le, by_last_cases, by_last_later, rule_set_by_last}
use Rattle.spec_series.specs.declared.by_part.End.TheVariants.{Never}
use Rattle.residue_clash.specs.Repeats.{limit_of}
use Rattle.residue_clash.specs.Tracks.{IsUpTo, IsGiven}

or_same : (p o : Bool) → (p || (o && p)) ≡ (p || false)
or_same true o = refl
or_same false true = refl
or_same false false = refl

limit_to : (b : Bound) (n : ℤ) → is_up_to b n ≡ true → IsUpTo (limit_of b) n
limit_to Endless n h = tt
limit_to (Last last) n h = int_le_is n last h

to_limit : (b : Bound) (n : ℤ) → IsUpTo (limit_of b) n → is_up_to b n ≡ true
to_limit Endless n h = refl
to_limit (Last last) n h = is_int_le n last h

-- a due day is of one of the two kinds, in its phase
due_parts : (s : Skip) (k o : Bool) (ph : ℤ → Bool) (n : ℤ)
    → ((k && ph n) || ((moves s && o) && ph (moved_from s n)))
    ≡ (((k || (is_backward s && (moves s && o))) && ph n) || ((is_forward s && (moves s && o)) && ph (n -ℤ pos 1)))
unfolding moved_from
due_parts Omit true o ph n = refl
due_parts Omit false o ph n = refl
due_parts Backward true o ph n = or_same (ph n) o
due_parts Backward false o ph n = sym (or-false (o && ph n))
due_parts Forward true o ph n = refl
due_parts Forward false o ph n = refl

pub due_is : (r : Rule) (s n : ℤ) → is_due r s n ≡ ((days_of false r n && phase_by false r s n) || (days_of true r n && phase_by true r s n))
unfolding is_due is_moved days_of
due_is r s n = due_parts r.skip (is_kept r n) (is_overflow r (moved_from r.skip n)) (is_in_phase r s) n

due_by : (kind : Bool) (r : Rule) (s n : ℤ) → days_of kind r n ≡ true → phase_by kind r s n ≡ true → is_due r s n ≡ true
due_by false r s n h g = due_is r s n ∙ or_left (days_of false r n && phase_by false r s n) (days_of true r n && phase_by true r s n) (both_and (days_of false r n) (phase_by false r s n) h g)
due_by true r s n h g = due_is r s n ∙ or_right (days_of false r n && phase_by false r s n) (days_of true r n && phase_by true r s n) (both_and (days_of true r n) (phase_by true r s n) h g)

-- the kind of a day of the set
pub kind_of : (r : Rule) (start n : ℤ) → is_in_set r start n ≡ true → (n ≡ day_of_wall start) ⊎ ((kind : Bool) × ((has_kind kind r ≡ true) × ((days_of kind r n ≡ true) × (phase_by kind r (day_of_wall start) n ≡ true))))
unfolding days_of
kind_of r start n h =
    let d = day_of_wall start in
    let t = second_of_wall start in
    elim (counted_cases (is_due r d) r.end t d n (in_cases (is_due r d) r.end t d n (sym (set_is r start d r.end t refl refl refl n) ∙ h)).0) [
      | inl same ↦ inl same
      | inr more ↦ inr (elim (or_cases (days_of false r n && phase_by false r d n) (days_of true r n && phase_by true r d n) (sym (due_is r d n) ∙ more.1.0)) [
        | inl own ↦ let b = and_both (days_of false r n) (phase_by false r d n) own in (false, (refl, (b.0, b.1)))
        | inr pushed ↦ let b = and_both (days_of true r n) (phase_by true r d n) pushed in (true, ((and_both (is_forward r.skip) (is_moved r n) b.0).0, (b.0, b.1)))
      ])
    ]

module _ (r : Rule) (start : ℤ) (b : Bound) (bound : IsBound (is_in_set r start) b) (kind : Bool) where
  abbrev Given : ℤ → Type 0
  Given n = IsGiven (days_of kind r) (phase_by kind r (day_of_wall start)) (limit_of b) (day_of_wall start) n

  pub to_given : (n : ℤ) → days_of kind r n ≡ true → phase_by kind r (day_of_wall start) n ≡ true → is_in_set r start n ≡ true → (n ≡ day_of_wall start) ⊎ Given n
  to_given n kept phase h =
      let d = day_of_wall start in
      let by = sym (rule_set_by_last r start d refl b bound n) ∙ h in
      elim (by_last_cases (is_due r d) Never 0 d b n by) [
        | inl same ↦ inl same
        | inr more ↦ inr (record { later = more.0; up_to = limit_to b n more.1.1; kept = kept; in_phase = phase })
      ]

  pub from_given : (n : ℤ) → Given n → is_in_set r start n ≡ true
  from_given n g =
      let d = day_of_wall start in
      rule_set_by_last r start d refl b bound n
      ∙ by_last_later (is_due r d) Never 0 d b n g.later (due_by kind r d n g.kept g.in_phase) (to_limit b n g.up_to)
