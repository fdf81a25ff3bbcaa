-- The instants from the start to the end of an occurrence, and the windows of instants that it overlaps.
use Rattle.std.specs.Prelude.{◌≡◌, ◌*◌, ℤ, pos, ◌+ℤ◌, ◌&&◌, int_lt, Bool, true, false, Option, Some, None, option_map}
use Rattle.std.specs.Option.{option_map_or}
use Rattle.spec_series.specs.declared.occurrence.Occurrence.{Occurrence}
use Rattle.spec_series.specs.declared.series.Series.{Series}
use Rattle.spec_series.specs.Occurrences.{IsOccurrence}
use Rattle.spec_windows.specs.declared.period.Period.{Period}
use Rattle.spec_windows.specs.declared.window.Window.{Window}

-- `at` gives the instant of a wall second, where there is one

abbrev pub period_of : Option ℤ → Option ℤ → Option Period
period_of None to = None
period_of (Some from) None = None
period_of (Some from) (Some to) = Some (record { from = from; to = to })

-- from the instant of the start to its end: the days of the length count on the clock, and its seconds from the instant of the wall second
-- that they come to (RFC 5545 section 3.3.6)
unfoldable pub span_at : (ℤ → Option ℤ) → Occurrence → Option Period
span_at at o = period_of (at o.start) (option_map (λ t. t +ℤ pos o.length.seconds) (at (o.start +ℤ pos (86400 * o.length.days))))

-- the period ends after the one limit and begins before the other; a limit that isn't there asks nothing
unfoldable pub keeps_limits : Window → Period → Bool
keeps_limits w p = option_map_or (λ a. int_lt a p.to) w.after true && option_map_or (λ b. int_lt p.from b) w.before true

-- an occurrence overlaps the window; one without both instants overlaps none
unfoldable pub overlaps_window : (ℤ → Option ℤ) → Window → Occurrence → Bool
overlaps_window at w o = option_map_or (keeps_limits w) (span_at at o) false

-- an occurrence of the series does
abbrev pub IsOverlapping : Series → (ℤ → Option ℤ) → Window → Occurrence → Type 0
IsOverlapping s at w o = IsOccurrence s o × (overlaps_window at w o ≡ true)

abbrev pub HasOverlapping : Series → (ℤ → Option ℤ) → Window → Type 0
HasOverlapping s at w = (o : Occurrence) × IsOverlapping s at w o
