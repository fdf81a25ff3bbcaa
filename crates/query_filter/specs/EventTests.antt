-- Events by which conditions are tested.
use Rattle.std.specs.Prelude.{List, Bool, option_map}
use Rattle.jiff_tz.specs.PosixText.{tz_view}
use Rattle.spec_filters.specs.Matches.{meets_condition}
use Rattle.spec_json.specs.Data.{Pair}
use Rattle.spec_json.specs.TreeData.{data_of}
use Rattle.query_filter.specs.declared.condition.EventTest.{EventTest}

-- the event meets a condition
abbrev pub event_meets : EventTest → List Pair → Bool
event_meets t = meets_condition t.clock.now (option_map (λ s. s.now) t.series) (option_map (λ r. tz_view r.now) t.rule) (data_of t.event.now)
