-- Events as they stand in an account.
use Rattle.std.specs.Prelude.{◌≡◌, List, option_map}
use Rattle.event_store.specs.declared.events.StoredEvent.{StoredEvent}
use Rattle.spec_json.specs.TreeData.{data_of}
use Rattle.spec_recurrence.specs.SeriesOf.{series_in}
use Rattle.spec_site.specs.TimeZones.{ZoneText}

-- the series beside an event is its own
abbrev pub HasItsSeries : List ZoneText → StoredEvent → Type 0
HasItsSeries zones e = option_map (λ s. s.now) e.series ≡ series_in zones (data_of e.object.now)
