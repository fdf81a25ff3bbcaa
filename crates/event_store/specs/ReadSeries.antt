-- What is kept of the events that were put.
use Rattle.std.specs.Prelude.{◌≡◌, List, Option, map, option_map}
use Rattle.account_store.specs.declared.kept.KeptEvent.{KeptEvent}
use Rattle.object_log.specs.declared.put.Put.{Put}
use Rattle.spec_json.specs.TreeData.{data_of}
use Rattle.spec_recurrence.specs.SeriesOf.{series_in}
use Rattle.spec_series.specs.declared.series.Series.{Series}
use Rattle.spec_site.specs.TimeZones.{ZoneText}

-- the series that stand beside events, and those that are read of them
abbrev pub series_beside : Option KeptEvent → Option (Option Series)
series_beside o = option_map (λ e. e.series) o

abbrev pub series_read : List ZoneText → Option KeptEvent → Option (Option Series)
series_read zones o = option_map (λ e. series_in zones (data_of e.object)) o

-- beside each event that was ever put stands its own series
abbrev pub AreRead : List ZoneText → List (Put KeptEvent) → Type 0
AreRead zones ps = map (λ p. series_beside p.object) ps ≡ map (λ p. series_read zones p.object) ps
