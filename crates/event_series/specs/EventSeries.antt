-- The series of an event (RFC 8984 section 4.3).
use Rattle.std.specs.Prelude.{◌≡◌, List, Some}
use Rattle.spec_events.specs.Events.{is_occupying, length_in, start_in}
use Rattle.spec_json.specs.Data.{Data}
use Rattle.spec_recurrence.specs.Overrides.{exceptions_in}
use Rattle.spec_recurrence.specs.RulesOf.{rules_of_event}
use Rattle.spec_series.specs.declared.series.Series.{Series}
use Rattle.spec_site.specs.TimeZones.{ZoneText}

-- its start, length, rules (section 4.3.3) and overrides (4.3.5), and whether it takes up the time, are those of the event
pub record IsSeriesOf (zones : List ZoneText) (d : Data) (s : Series) : Type 0 where
  pub start : s.start ≡ start_in d
  pub length : s.length ≡ length_in d
  pub occupying : s.occupying ≡ is_occupying d
  pub rules : s.rules ≡ rules_of_event d
  pub exceptions : exceptions_in zones d ≡ Some s.exceptions
