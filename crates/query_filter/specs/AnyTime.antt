-- Filters that don't look at when an event is.
use Rattle.std.specs.Prelude.{◌≡◌, Option}
use Rattle.jiff_tz.specs.PosixText.{TzText}
use Rattle.spec_filters.specs.Matches.{matches_by}
use Rattle.spec_json.specs.Data.{Data}
use Rattle.spec_series.specs.declared.series.Series.{Series}

-- the filter holds of an event or doesn't, whatever the event's series and the rule of its zone
abbrev pub IsForAnyTime : Data → Type 0
IsForAnyTime filter = (clock : TzText) (s t : Option Series) (r q : Option TzText) (event : Data) → matches_by clock s r filter event ≡ matches_by clock t q filter event
