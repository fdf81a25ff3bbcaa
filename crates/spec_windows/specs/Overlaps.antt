-- Whether some occurrence of a series overlaps a window, as a test.
use Rattle.std.specs.Prelude.{ℤ, pos, Bool, Option}
use Rattle.std.specs.List.{list_any}
use Rattle.spec_series.specs.declared.occurrence.Occurrence.{Occurrence}
use Rattle.spec_series.specs.declared.series.Series.{Series}
use Rattle.spec_series.specs.Numbers.{seconds_around}
use Rattle.spec_series.specs.Occurrences.{passes_with}
use Rattle.spec_windows.specs.declared.window.Window.{Window}
use Rattle.spec_windows.specs.Windows.{overlaps_window}

-- an occurrence passes, looked for recurrence id by recurrence id
unfoldable pub has_passing : (Occurrence → Bool) → Series → Bool
has_passing test s = list_any (passes_with test s) (seconds_around (pos 0))

-- one overlaps the window
abbrev pub has_overlapping : Series → (ℤ → Option ℤ) → Window → Bool
has_overlapping s at w = has_passing (overlaps_window at w) s
