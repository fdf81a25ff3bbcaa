-- The rules of an event as their type has them (RFC 8984 section 4.3.3).
use Rattle.std.specs.Prelude.{◌≡◌, ◌<◌, ℕ, ℤ, List, [], Bool, true, false, ◌&&◌, Option, Some, None, codes, nat_le, nat_lt, option_and_then, unwrap_or}
use Rattle.std.specs.Int.{IsInRange}
use Rattle.std.specs.Option.{option_map_or}
use Rattle.std.proofs.Common.{refl}
use Rattle.std.proofs.lemmas.Bool.{and_parts, leb-true, ltb-true}
use Rattle.spec_events.specs.Events.{start_in}
use Rattle.spec_json.specs.Data.{Data, field}
use Rattle.spec_json.specs.Parts.{all_some}
use Rattle.spec_series.specs.RuleLimits.{are_by_parts, are_year_days, is_end, is_skip}
use Rattle.spec_series.specs.RuleObjects.{RuleParts, fits_frequency, rules_in}
use Rattle.spec_series.specs.declared.rule.Rule.{Rule}

abbrev pub is_interval : ℕ → Bool
is_interval n = nat_le 1 n && nat_le n 1000

abbrev pub has_by_parts : RuleParts → Bool
has_by_parts p = are_by_parts p.frequency p.by_day p.by_month_day p.by_month p.by_set

abbrev pub ends_within : RuleParts → Bool
ends_within p = is_end p.end && fits_frequency p

abbrev pub repeats_within : RuleParts → Bool
repeats_within p = has_by_parts p && ends_within p

abbrev pub weeks_start_within : RuleParts → Bool
weeks_start_within p = nat_lt p.week_start 7 && repeats_within p

-- the parts keep within the limits of a rule
abbrev pub is_within_limits : RuleParts → Bool
is_within_limits p = is_interval p.interval && weeks_start_within p

-- the same, as the type of a rule has it
pub record IsWithinLimits (p : RuleParts) : Type 0 where
  pub interval : IsInRange 1 1000 p.interval
  pub week_start : p.week_start < 7
  pub by_parts : has_by_parts p ≡ true
  pub end : is_end p.end ≡ true
  pub year_days : are_year_days p.frequency p.by_year_day ≡ true
  pub skip : is_skip p.skip p.frequency p.by_day p.by_month_day p.by_year_day p.by_set ≡ true

abbrev pub limits_of : (p : RuleParts) → is_within_limits p ≡ true → IsWithinLimits p
limits_of p fits =
    let first = and_parts (is_interval p.interval) (weeks_start_within p) fits in
    let bounds = and_parts (nat_le 1 p.interval) (nat_le p.interval 1000) first.0 in
    let second = and_parts (nat_lt p.week_start 7) (repeats_within p) first.1 in
    let third = and_parts (has_by_parts p) (ends_within p) second.1 in
    let fourth = and_parts (is_end p.end) (fits_frequency p) third.1 in
    let fifth = and_parts (are_year_days p.frequency p.by_year_day) _ fourth.1 in
    record {
      interval = (leb-true 1 p.interval bounds.0, leb-true p.interval 1000 bounds.1);
      week_start = ltb-true p.week_start 7 second.0;
      by_parts = third.0;
      end = fourth.0;
      year_days = fifth.0;
      skip = fifth.1;
    }

-- the rule that has these parts
abbrev pub rule_by : (p : RuleParts) → IsWithinLimits p → Rule
rule_by p limits = record {
  frequency = p.frequency;
  interval = p.interval;
  week_start = p.week_start;
  by_day = p.by_day;
  by_month_day = p.by_month_day;
  by_month = p.by_month;
  by_year_day = p.by_year_day;
  by_set = p.by_set;
  skip = p.skip;
  end = p.end;
  interval_in = limits.interval;
  week_start_in = limits.week_start;
  by_parts_in = limits.by_parts;
  year_days_in = limits.year_days;
  skip_in = limits.skip;
  end_in = limits.end;
}

abbrev pub rule_where : (p : RuleParts) → (b : Bool) → is_within_limits p ≡ b → Option Rule
rule_where p false limits = None
rule_where p true limits = Some (rule_by p (limits_of p limits))

-- the same, none where the parts pass the limits
unfoldable pub rule_by_parts : RuleParts → Option Rule
rule_by_parts p = rule_where p (is_within_limits p) refl

-- the rules that a value means for a series that starts at this wall second; none where it means none
abbrev pub rules_meant : ℤ → Data → List Rule
rules_meant start d = unwrap_or (option_and_then (all_some rule_by_parts) (rules_in start d)) []

-- the rules of an event, of which there may be none
abbrev pub rules_of_event : Data → List Rule
rules_of_event d = option_map_or (rules_meant (start_in d)) (field (codes "recurrenceRules") d) []
