-- An event without bad properties has a series.
use Rattle.std.proofs.Common.{◌≡◌, ◌≤◌, ◌==◌, ℕ, suc, ℤ, List, [], ◌∷◌, Bool, true, false, Option, Some, None, codes, is_some, length, nat_le, option_and_then, option_map, unwrap_or, if◌then◌else◌, arith, refl, sym, ap, ◌∙◌}
use Rattle.std.proofs.lemmas.Bool.{and_from, false≢true}
use Rattle.std.proofs.lemmas.Bool.Decides.{nat_tests}
use Rattle.std.specs.Option.{option_map_or}
use Rattle.spec_events.specs.Events.{length_in, start_in}
use Rattle.spec_json.specs.Data.{Data, field}
use Rattle.spec_json.specs.ObjectKeys.{keys_rise}
use Rattle.spec_json.specs.Parts.{all_some, as_list, object_at}
use Rattle.spec_recurrence.specs.Overrides.{exceptions_in}
use Rattle.spec_recurrence.specs.Recurrence.{bad_properties_of_event, recurring_event_table}
use Rattle.spec_recurrence.specs.RulesOf.{rule_by_parts, rules_meant, rules_of_event}
use Rattle.spec_recurrence.specs.SeriesOf.{SeriesParts, event_parts, is_series, series_by_parts, series_in, series_where}
use Rattle.spec_series.specs.RuleObjects.{RuleParts, rule_in, rules_in, rules_of}
use Rattle.spec_series.specs.SeriesLimits.{wall_seconds}
use Rattle.spec_series.specs.declared.exception.Exception.{Exception}
use Rattle.spec_series.specs.declared.rule.Rule.{Rule}
use Rattle.spec_site.specs.TimeZones.{ZoneText}
use Rattle.spec_time.specs.Walls.{day_of_wall}
use Rattle.event_series.proofs.EventLemmas.{event_is_short, has_exceptions, in_years, recurring_tests, start_shows}
use Rattle.event_series.proofs.ExceptionLemmas.{exceptions_are_distinct, exceptions_are_few, exceptions_are_in_years, exceptions_are_short}

-- Its rules are few.

-- what comes of all is no more than they are
few_step : {Y : Type 0} (n : ℕ) (o : Option Y) (rest : Option (List Y)) → length (unwrap_or rest []) ≤ n → length (unwrap_or (option_and_then (λ y. option_map (λ ys. y ∷ ys) rest) o) []) ≤ suc n
few_step n None rest h = omega arith
few_step n (Some y) None h = omega arith
few_step n (Some y) (Some ys) h = omega (arith, h)

few_all : {X Y : Type 0} (f : X → Option Y) (xs : List X) → length (unwrap_or (all_some f xs) []) ≤ length xs
few_all f [] = omega arith
few_all f (x ∷ xs) = few_step (length xs) (f x) (all_some f xs) (few_all f xs)

few_by : (n : ℤ) (ds : List Data) (few : Bool) → nat_le (length ds) 4 ≡ few → length (unwrap_or (if few then all_some (rule_in n) ds else None) []) ≤ 4
few_by n ds true e = let all = few_all (rule_in n) ds in let most : length ds ≤ 4 = grind (arith, nat_tests) in omega (arith, all, most)
few_by n ds false e = omega arith

few_read : (n : ℤ) (o : Option (List Data)) → length (unwrap_or (option_and_then (rules_of n) o) []) ≤ 4
few_read n None = omega arith
few_read n (Some ds) = few_by n ds (nat_le (length ds) 4) refl

few_meant : (o : Option (List RuleParts)) → length (unwrap_or o []) ≤ 4 → length (unwrap_or (option_and_then (all_some rule_by_parts) o) []) ≤ 4
few_meant None h = omega arith
few_meant (Some ps) h = let all = few_all rule_by_parts ps in omega (arith, all, h)

few_given : (start : ℤ) (o : Option Data) → length (option_map_or (rules_meant start) o []) ≤ 4
few_given start None = omega arith
few_given start (Some d) = few_meant (rules_in start d) (few_read (day_of_wall start) (as_list d))

few_rules : (d : Data) → nat_le (length (rules_of_event d)) 4 ≡ true
few_rules d = let few = few_given (start_in d) (field (codes "recurrenceRules") d) in grind (arith, nat_tests)

-- Its parts keep within the limits of a series.

where_some : (p : SeriesParts) (b : Bool) (h : is_series p ≡ b) → b ≡ true → is_some (series_where p b h) ≡ true
where_some p false h e = cc
where_some p true h e = refl

parts_some : (p : SeriesParts) → is_series p ≡ true → is_some (series_by_parts p) ≡ true
unfolding series_by_parts
parts_some p e = where_some p (is_series p) refl e

module _ (zones : List ZoneText) (d : Data) (rise : keys_rise (unwrap_or (object_at (codes "recurrenceOverrides") d) []) ≡ true) (none : bad_properties_of_event zones d ≡ []) where
  fits : (xs : List Exception) → exceptions_in zones d ≡ Some xs → is_series (event_parts d xs) ≡ true
  fits xs e =
      let lasts : nat_le (wall_seconds (length_in d)) 31622400 ≡ true = let h = event_is_short zones d none in grind (arith, nat_tests) in
      let few : nat_le (length xs) 128 ≡ true = let h = exceptions_are_few zones d xs rise e in grind (arith, nat_tests) in
      and_from _ _ (in_years (start_in d) (start_shows (recurring_event_table zones d) d (recurring_tests zones d) none)) (and_from _ _ lasts (and_from _ _ (few_rules d)
      (and_from _ _ few (and_from _ _ (exceptions_are_in_years zones d xs rise e) (and_from _ _ (exceptions_are_short zones d xs rise e) (exceptions_are_distinct zones d xs rise e))))))

  by_exceptions : (found : Option (List Exception)) → exceptions_in zones d ≡ found → is_some (option_and_then (λ xs. series_by_parts (event_parts d xs)) found) ≡ true
  by_exceptions None e = absurd (false≢true (sym (ap is_some e) ∙ has_exceptions zones d none))
  by_exceptions (Some xs) e = parts_some (event_parts d xs) (fits xs e)

  pub valid_has_series : is_some (series_in zones d) ≡ true
  unfolding series_in
  valid_has_series = rw none (by_exceptions (exceptions_in zones d) refl)
