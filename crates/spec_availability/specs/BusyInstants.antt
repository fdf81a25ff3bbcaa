-- The instants at which events take up the time.
use Rattle.std.specs.Prelude.{ℕ, ℤ, Bool, false, List, Option, Some, None}
use Rattle.std.specs.List.{list_any}
use Rattle.jiff_tz.specs.PosixText.{TzText}
use Rattle.spec_json.specs.Data.{Data}
use Rattle.spec_json.specs.TreeData.{data_of}
use Rattle.spec_json.specs.declared.tree.Tree.{Tree}
use Rattle.spec_recurrence.specs.SeriesOf.{series_in}
use Rattle.spec_series.specs.declared.series.Series.{Series}
use Rattle.spec_site.specs.TimeZones.{ZoneText}
use Rattle.spec_windows.specs.BusyPeriods.{occupies}
use Rattle.spec_windows.specs.Clocks.{instant_in}
use Rattle.spec_windows.specs.Overlaps.{has_passing}
use Rattle.spec_windows.specs.ZoneRules.{rule_of_event}

-- an occurrence of the series takes up the instant
abbrev pub is_occupied : Series → (ℤ → Option ℤ) → ℤ → Bool
is_occupied s at u = has_passing (occupies at u) s

-- one does in a zone of this rule; without a series or a rule there is none
abbrev pub is_occupied_by : Option Series → Option TzText → ℤ → Bool
is_occupied_by (Some s) (Some rule) u = is_occupied s (instant_in rule) u
is_occupied_by (Some s) None u = false
is_occupied_by None rule u = false

module _ (zones : List ZoneText) (floating : List ℕ) where
  -- the event takes up the instant, in its zone or, where it is floating, in that of the name `floating`
  abbrev pub takes_up : ℤ → Data → Bool
  takes_up u event = is_occupied_by (series_in zones event) (rule_of_event zones floating event) u

  -- some of these events does
  abbrev pub is_taken_up : List Tree → ℤ → Bool
  is_taken_up events u = list_any (λ event. takes_up u (data_of event)) events
