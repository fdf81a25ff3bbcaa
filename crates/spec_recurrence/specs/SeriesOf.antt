-- The series of an event as its type has it (RFC 8984 section 4.3).
use Rattle.std.specs.Prelude.{◌≡◌, ◌≤◌, ◌==◌, ◌&&◌, ℤ, List, Bool, true, false, Option, Some, None, length as count, nat_le, option_and_then, if◌then◌else◌}
use Rattle.std.proofs.Common.{refl}
use Rattle.std.proofs.lemmas.Bool.{and_parts, leb-true}
use Rattle.spec_events.specs.Events.{is_occupying, length_in, start_in}
use Rattle.spec_json.specs.Data.{Data}
use Rattle.spec_recurrence.specs.Overrides.{exceptions_in}
use Rattle.spec_recurrence.specs.Recurrence.{bad_properties_of_event}
use Rattle.spec_recurrence.specs.RulesOf.{rules_of_event}
use Rattle.spec_series.specs.SeriesLimits.{are_distinct, are_in_years, are_short, most_seconds, wall_seconds}
use Rattle.spec_series.specs.declared.exception.Exception.{Exception}
use Rattle.spec_series.specs.declared.rule.Rule.{Rule}
use Rattle.spec_series.specs.declared.series.Series.{Series}
use Rattle.spec_site.specs.TimeZones.{ZoneText}
use Rattle.spec_time.specs.Walls.{is_in_years}
use Rattle.spec_time.specs.declared.length.Length.{Length}

-- what a series tells
pub record SeriesParts : Type 0 where
  pub start : ℤ
  pub length : Length
  pub occupying : Bool
  pub rules : List Rule
  pub exceptions : List Exception

abbrev pub are_exceptions : List Exception → Bool
are_exceptions xs = nat_le (count xs) 128 && (are_in_years xs && (are_short xs && are_distinct xs))

abbrev pub recurs_within : SeriesParts → Bool
recurs_within p = nat_le (count p.rules) 4 && are_exceptions p.exceptions

abbrev pub lasts_within : SeriesParts → Bool
lasts_within p = nat_le (wall_seconds p.length) most_seconds && recurs_within p

-- the parts keep within the limits of a series
abbrev pub is_series : SeriesParts → Bool
is_series p = is_in_years p.start && lasts_within p

-- the same, as the type of a series has it
pub record IsSeries (p : SeriesParts) : Type 0 where
  pub start : is_in_years p.start ≡ true
  pub length : wall_seconds p.length ≤ most_seconds
  pub few_rules : count p.rules ≤ 4
  pub few_exceptions : count p.exceptions ≤ 128
  pub exceptions : are_in_years p.exceptions ≡ true
  pub exceptions_short : are_short p.exceptions ≡ true
  pub exceptions_distinct : are_distinct p.exceptions ≡ true

abbrev pub limits_of_series : (p : SeriesParts) → is_series p ≡ true → IsSeries p
limits_of_series p fits =
    let first = and_parts (is_in_years p.start) (lasts_within p) fits in
    let second = and_parts (nat_le (wall_seconds p.length) most_seconds) (recurs_within p) first.1 in
    let third = and_parts (nat_le (count p.rules) 4) (are_exceptions p.exceptions) second.1 in
    let fourth = and_parts (nat_le (count p.exceptions) 128) (are_in_years p.exceptions && (are_short p.exceptions && are_distinct p.exceptions)) third.1 in
    let fifth = and_parts (are_in_years p.exceptions) (are_short p.exceptions && are_distinct p.exceptions) fourth.1 in
    let sixth = and_parts (are_short p.exceptions) (are_distinct p.exceptions) fifth.1 in
    record {
      start = first.0;
      length = leb-true (wall_seconds p.length) most_seconds second.0;
      few_rules = leb-true (count p.rules) 4 third.0;
      few_exceptions = leb-true (count p.exceptions) 128 fourth.0;
      exceptions = fifth.0;
      exceptions_short = sixth.0;
      exceptions_distinct = sixth.1;
    }

-- the series that has these parts
abbrev pub series_by : (p : SeriesParts) → IsSeries p → Series
series_by p limits = record {
  start = p.start;
  length = p.length;
  occupying = p.occupying;
  rules = p.rules;
  exceptions = p.exceptions;
  start_in = limits.start;
  length_in = limits.length;
  few_rules = limits.few_rules;
  few_exceptions = limits.few_exceptions;
  exceptions_in = limits.exceptions;
  exceptions_short = limits.exceptions_short;
  exceptions_distinct = limits.exceptions_distinct;
}

abbrev pub series_where : (p : SeriesParts) → (b : Bool) → is_series p ≡ b → Option Series
series_where p false limits = None
series_where p true limits = Some (series_by p (limits_of_series p limits))

-- the same, none where the parts pass the limits
unfoldable pub series_by_parts : SeriesParts → Option Series
series_by_parts p = series_where p (is_series p) refl

-- the parts of a series
abbrev pub series_parts : Series → SeriesParts
series_parts s = record { start = s.start; length = s.length; occupying = s.occupying; rules = s.rules; exceptions = s.exceptions }

-- what an event with these exceptions tells
abbrev pub event_parts : Data → List Exception → SeriesParts
event_parts d xs = record { start = start_in d; length = length_in d; occupying = is_occupying d; rules = rules_of_event d; exceptions = xs }

-- the series of an event without bad properties: its start, length, rules and overrides, and whether it takes up the time
abbrev pub valid_series : List ZoneText → Data → Option Series
valid_series zones d = option_and_then (λ xs. series_by_parts (event_parts d xs)) (exceptions_in zones d)

-- the series of an event; none where a property is bad
unfoldable pub series_in : List ZoneText → Data → Option Series
series_in zones d = if count (bad_properties_of_event zones d) == 0 then valid_series zones d else None
