-- The instants that events take up.
use Rattle.std.proofs.Common.{◌≡◌, ◌&&◌, ◌||◌, ◌⊎◌, ℕ, inl, inr, true, subst, ap, ◌∙◌, ℤ, pos, ◌-ℤ◌, ◌<ℤ◌, Option, Some, None, List}
use Rattle.std.specs.Prelude.{◌↔◌, Result, Ok, Err, IfOk, OnOk}
use Rattle.std.proofs.lemmas.Bool.{and_right}
use Rattle.std.proofs.lemmas.Result.{on_ok_weaker}
use Rattle.jiff_tz.specs.PosixText.{TzText}
use Rattle.availability_method.proofs.RunLemmas.{busy_in_years, runs_are}
use Rattle.availability_method.specs.Periods.{AreInYears}
use Rattle.spec_availability.specs.Runs.{runs_in}
use Rattle.spec_events.specs.Values.{is_showing}
use Rattle.spec_availability.specs.BusyInstants.{is_occupied, is_occupied_by, is_taken_up}
use Rattle.spec_json.proofs.Booleans.{or_nothing}
use Rattle.spec_json.specs.declared.tree.Tree.{Tree}
use Rattle.spec_site.specs.TimeZones.{ZoneText}
use Rattle.spec_series.specs.declared.series.Series.{Series}
use Rattle.spec_windows.specs.declared.period.Period.{Period}
use Rattle.spec_windows.specs.BusyPeriods.{are_runs, is_busy, lies_in, occupies, IsOccupied}
use Rattle.spec_windows.specs.Clocks.{instant_in}
use Rattle.spec_windows.specs.Windows.{span_at}
use Rattle.occurrence_windows.proofs.Overlapping.{has_span, some_holds}
use Rattle.occurrence_windows.proofs.Passing.{passing_is, rid_near}
use Rattle.rule_expand.proofs.Places.{and_both}
use Rattle.rule_expand.proofs.Sets.{both_and, or_cases, or_left, or_right, same_truth}

pub occupied_is : (s : Series) (rule : TzText) (u : ℤ) → (is_occupied s (instant_in rule) u ≡ true) ↔ IsOccupied s (instant_in rule) u
occupied_is s rule u = passing_is (occupies (instant_in rule) u) s (λ o m h.
    let covered = some_holds (lies_in u) (span_at (instant_in rule) o) (and_both o.occupying _ h).1 in
    rid_near s rule o covered.0.from m (has_span (instant_in rule) o covered.0 covered.1.0).first)

-- What one event more takes up.

-- an event without a series takes up nothing
pub no_series : (w : Period) (ps : List Period) (s : Option Series) (rule : Option TzText) (u : ℤ) → s ≡ None → is_busy ps u ≡ (is_busy ps u || (lies_in u w && is_occupied_by s rule u))
no_series w ps s rule u e = or_nothing (is_busy ps u) _ (and_right (lies_in u w) _ (ap (λ x. is_occupied_by x rule u) e))

-- nor does one without a zone
pub no_rule : (w : Period) (ps : List Period) (s : Series) (rule : Option TzText) (u : ℤ) → rule ≡ None → is_busy ps u ≡ (is_busy ps u || (lies_in u w && is_occupied_by (Some s) rule u))
no_rule w ps s rule u e = or_nothing (is_busy ps u) _ (and_right (lies_in u w) _ (ap (λ x. is_occupied_by (Some s) x u) e))

-- another one takes up what its occurrences do
pub one_more : (w : Period) (old new : List Period) (s : Series) (rule : TzText)
    → ((u : ℤ) → (is_busy new u ≡ true) ↔ ((is_busy old u ≡ true) ⊎ ((lies_in u w ≡ true) × IsOccupied s (instant_in rule) u)))
    → (u : ℤ) → is_busy new u ≡ (is_busy old u || (lies_in u w && is_occupied s (instant_in rule) u))
one_more w old new s rule f u = same_truth (is_busy new u) (is_busy old u || (lies_in u w && is_occupied s (instant_in rule) u))
    (λ h. elim ((f u).0 h) [
      | inl before ↦ or_left (is_busy old u) _ before
      | inr here ↦ or_right (is_busy old u) _ (both_and (lies_in u w) _ here.0 ((occupied_is s rule u).1 here.1))
    ])
    (λ h. elim (or_cases (is_busy old u) _ h) [
      | inl before ↦ (f u).1 (inl before)
      | inr here ↦ let b = and_both (lies_in u w) _ here in (f u).1 (inr (b.0, (occupied_is s rule u).0 b.1))
    ])

-- where it has this series and this rule
pub one_more_by : {A E : Type 0} (r : Result A E) (w : Period) (old new : List Period) (x : Option Series) (y : Option TzText) (s : Series) (rule : TzText) → x ≡ Some s → y ≡ Some rule
    → OnOk r ((u : ℤ) → (is_busy new u ≡ true) ↔ ((is_busy old u ≡ true) ⊎ ((lies_in u w ≡ true) × IsOccupied s (instant_in rule) u)))
    → OnOk r ((u : ℤ) → is_busy new u ≡ (is_busy old u || (lies_in u w && is_occupied_by x y u)))
one_more_by r w old new x y s rule ex ey h = on_ok_weaker r (λ f u. rw (ex, ey) (one_more w old new s rule f u)) h

-- What several events take up: all of them, in the window that was asked for.

pub taken_by_all : (w kept : Period) (ps : List Period) (zones : List ZoneText) (floating : List ℕ) (all seen : List Tree) → kept ≡ w → seen ≡ all → w.from <ℤ w.to → are_runs (kept.from -ℤ pos 1) kept.to ps ≡ true
    → ((u : ℤ) → is_busy ps u ≡ (lies_in u w && is_taken_up zones floating seen u)) → ps ≡ runs_in (is_taken_up zones floating all) w
taken_by_all w kept ps zones floating all seen e f lt r same = runs_are (is_taken_up zones floating all) w ps lt
    (subst (λ (x : Period). are_runs (x.from -ℤ pos 1) x.to ps ≡ true) e r) (λ u. same u ∙ ap (λ es. lies_in u w && is_taken_up zones floating es u) f)

-- where there was memory for them
pub taken_told : {X E : Type 0} (r : Result X E) (items : X → List Period) (w kept : Period) (spans : List Period) (zones : List ZoneText) (floating : List ℕ) (all seen : List Tree) → kept ≡ w → seen ≡ all → w.from <ℤ w.to
    → IfOk r (λ x. are_runs (kept.from -ℤ pos 1) kept.to (items x) ≡ true) → IfOk r (λ x. (u : ℤ) → is_busy (items x) u ≡ is_busy spans u)
    → ((u : ℤ) → is_busy spans u ≡ (lies_in u w && is_taken_up zones floating seen u)) → IfOk r (λ x. items x ≡ runs_in (is_taken_up zones floating all) w)
taken_told (Ok x) items w kept spans zones floating all seen e f lt runs same busy = taken_by_all w kept (items x) zones floating all seen e f lt runs (λ u. same u ∙ busy u)
taken_told (Err error) items w kept spans zones floating all seen e f lt runs same busy = tt

pub taken_in_years : (w kept : Period) (ps : List Period) → kept ≡ w → is_showing w.from ≡ true → is_showing w.to ≡ true → are_runs (kept.from -ℤ pos 1) kept.to ps ≡ true → AreInYears ps
taken_in_years w kept ps e from to r = busy_in_years w ps from to (subst (λ (x : Period). are_runs (x.from -ℤ pos 1) x.to ps ≡ true) e r)
