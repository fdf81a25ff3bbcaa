-- What a wish comes to where it begins at a wall second.
use Rattle.std.specs.Prelude.{ℤ, List, [], true, Option, option_and_then}
use Rattle.spec_json.specs.Data.{Data}
use Rattle.spec_json.specs.Parts.{all_some}
use Rattle.spec_recurrence.specs.RulesOf.{rule_by_parts}
use Rattle.spec_recurrence.specs.SeriesOf.{SeriesParts, series_by_parts}
use Rattle.spec_series.specs.RuleObjects.{rules_in}
use Rattle.spec_series.specs.declared.rule.Rule.{Rule}
use Rattle.spec_series.specs.declared.series.Series.{Series}
use Rattle.spec_bookings.specs.Clashes.{first_clash}
use Rattle.spec_bookings.specs.declared.booking.Booking.{Booking}
use Rattle.spec_bookings.specs.declared.clash.Clash.{Clash}
use Rattle.spec_time.specs.declared.length.Length.{Length}

-- its rules, read for that start; none where they can't be read
abbrev pub wished_rules : Data → ℤ → Option (List Rule)
wished_rules rules x = option_and_then (all_some rule_by_parts) (rules_in x rules)

-- an occupying series with that start and length, with rules and without exceptions
abbrev pub wished_parts : Length → ℤ → List Rule → SeriesParts
wished_parts length x rs = record { start = x; length = length; occupying = true; rules = rs; exceptions = [] }

unfoldable pub wished_series : Length → Data → ℤ → Option Series
wished_series length rules x = option_and_then (λ rs. series_by_parts (wished_parts length x rs)) (wished_rules rules x)

-- what stands against it among some bookings
abbrev pub wish_clash : List Booking → Length → Data → ℤ → Option Clash
wish_clash bs length rules x = option_and_then (first_clash bs) (wished_series length rules x)
