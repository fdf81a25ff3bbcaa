-- Events that give nothing, since a filter is known not to hold of them by their series.
use Rattle.std.proofs.Common.{◌≡◌, ℕ, List, [], Bool, true, false, Option, if◌then◌else◌, refl}
use Rattle.std.specs.Prelude.{unwrap_or}
use Rattle.spec_filters.specs.Matches.{event_matches}
use Rattle.spec_json.specs.Data.{Data}
use Rattle.spec_queries.specs.Expanded.{results_of_event}
use Rattle.spec_recurrence.specs.SeriesOf.{series_in}
use Rattle.spec_series.specs.declared.series.Series.{Series}
use Rattle.spec_site.specs.TimeZones.{ZoneText}
use Rattle.spec_windows.specs.ZoneRules.{rule_of, utc_rule}
use Rattle.query_filter.specs.InZone.{FilterInZone}
use Rattle.query_filter.specs.Skips.{IsForNoneOf}
use Rattle.query_methods.proofs.SightLemmas.{not_matched}

none_by : {A : Type 0} (b : Bool) (rs : List A) → false ≡ b → [] ≡ (if b then rs else [])
none_by true rs h = cc
none_by false rs h = refl

pub none_given : (f : FilterInZone) (series : Option Series) (zones : List ZoneText) (floating : List ℕ) (n : ℕ) (event : Data)
    → IsForNoneOf f series → series ≡ series_in zones event → f.clock ≡ unwrap_or (rule_of zones floating) utc_rule
    → [] ≡ results_of_event zones floating f.filter n event
none_given f series zones floating n event none its zoned =
    none_by (event_matches zones floating f.filter event) _ (not_matched f series zones floating event none its zoned)
