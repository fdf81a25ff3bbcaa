-- The series of what a change of an account puts.
use Rattle.std.specs.Prelude.{List, Option, None, option_and_then, if◌then◌else◌}
use Rattle.spec_history.specs.History.{is_kind}
use Rattle.spec_history.specs.declared.entry.Change.{Change}
use Rattle.spec_history.specs.declared.entry.Kind.TheVariants.{Event}
use Rattle.spec_json.specs.TreeData.{data_of}
use Rattle.spec_recurrence.specs.SeriesOf.{series_in}
use Rattle.spec_series.specs.declared.series.Series.{Series}
use Rattle.spec_site.specs.TimeZones.{ZoneText}

-- the series of the event that a change puts (RFC 8984 section 4.3); none for a calendar, a removal, and an event with a bad property
abbrev pub series_put : List ZoneText → Change → Option Series
series_put zones c = if is_kind Event c.kind then option_and_then (λ t. series_in zones (data_of t)) c.object else None
