-- Events that a filter skips before the rule of their zone is known.
use Rattle.std.specs.Prelude.{◌≡◌, ◌==◌, ◌&&◌, ◌||◌, ◌+ℤ◌, ◌-ℤ◌, ℕ, ℤ, pos, List, length, Bool, true, false, not, Option, Some, None}
use Rattle.std.specs.Option.{option_map_or}
use Rattle.spec_filters.specs.Matches.{matches_by}
use Rattle.spec_json.specs.Data.{Data}
use Rattle.spec_series.specs.SeriesLimits.{wall_seconds}
use Rattle.spec_series.specs.declared.series.Series.{Series}
use Rattle.spec_site.specs.TimeZones.{ZoneText}
use Rattle.spec_windows.specs.Windows.{keeps_limits}
use Rattle.spec_windows.specs.ZoneRules.{rule_of_event}
use Rattle.spec_windows.specs.declared.period.Period.{Period}
use Rattle.spec_windows.specs.declared.window.Window.{Window}
use Rattle.occurrence_windows.specs.declared.walk.TheConstants.{FARTHEST}
use Rattle.query_filter.specs.InZone.{FilterInZone}
use Rattle.query_filter.specs.KeptTimes.{times_of}

-- the filter holds of no event with this series, whatever the zones and whichever of them is the event's
abbrev pub IsForNoneOf : FilterInZone → Option Series → Type 0
IsForNoneOf f series = (zones : List ZoneText) (floating : List ℕ) (event : Data) → matches_by f.clock series (rule_of_event zones floating event) f.filter event ≡ false

-- without rules and exceptions a series has the one occurrence at its start (RFC 8984 section 4.3)
abbrev pub is_alone : Series → Bool
is_alone s = (length s.rules == 0) && (length s.exceptions == 0)

-- an instant lies at most FARTHEST seconds from its wall second, so an occurrence of so many wall seconds takes up no more than this
abbrev pub widest : ℤ → ℕ → Period
widest start seconds = record { from = start -ℤ FARTHEST; to = start +ℤ pos seconds +ℤ FARTHEST }

abbrev pub may_overlap : Option Series → Window → Bool
may_overlap None w = false
may_overlap (Some s) w = not (is_alone s) || keeps_limits w (widest s.start (wall_seconds s.length))

-- an event with this series may overlap the times that are kept of a filter
abbrev pub may_match : FilterInZone → Option Series → Bool
may_match f series = option_map_or (λ t. may_overlap series t.window) (times_of f.clock f.filter) true
