-- Events that a filter is known not to hold of by their series.
use Rattle.std.proofs.Common.{◌≡◌, ◌∙◌, List, ℕ, Option, false, sym}
use Rattle.std.specs.Prelude.{unwrap_or}
use Rattle.spec_filters.specs.Matches.{event_matches, matches_by}
use Rattle.spec_json.specs.Data.{Data}
use Rattle.spec_recurrence.specs.SeriesOf.{series_in}
use Rattle.spec_series.specs.declared.series.Series.{Series}
use Rattle.spec_site.specs.TimeZones.{ZoneText}
use Rattle.spec_windows.specs.ZoneRules.{rule_of, rule_of_event, utc_rule}
use Rattle.query_filter.specs.InZone.{FilterInZone}
use Rattle.query_filter.specs.Skips.{IsForNoneOf}

pub not_matched : (f : FilterInZone) (series : Option Series) (zones : List ZoneText) (floating : List ℕ) (event : Data) → IsForNoneOf f series → series ≡ series_in zones event → f.clock ≡ unwrap_or (rule_of zones floating) utc_rule
    → false ≡ event_matches zones floating f.filter event
not_matched f series zones floating event none its zoned =
    sym (none zones floating event) ∙ (λ i. matches_by (zoned i) (its i) (rule_of_event zones floating event) f.filter event)
