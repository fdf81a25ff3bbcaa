-- Between which wall seconds occurrences start that overlap a window.
use Rattle.std.specs.Prelude.{ℕ, ℤ, pos, ◌+ℤ◌, ◌-ℤ◌, Bool, true, nat_le, Option, Some, None, IfSome}
use Rattle.jiff_core.specs.Calendar.{IsWithin}
use Rattle.spec_events.specs.declared.limits.TheConstants.{FIRST_START, LAST_START}
use Rattle.spec_series.specs.declared.exception.Span.{Span}
use Rattle.spec_series.specs.SeriesLimits.{wall_seconds}
use Rattle.spec_windows.specs.declared.window.Window.{Window}
use Rattle.occurrence_windows.specs.declared.walk.TheConstants.{FARTHEST}

-- the limits that are there lie less than 9,500 years from 1970
abbrev pub AreNear : Window → Type 0
AreNear w = IfSome w.after (IsWithin 300000000000) × IfSome w.before (IsWithin 300000000000)

-- An instant lies at most FARTHEST seconds from its wall second.

-- none that ends after the limit and lasts no longer than so many wall seconds starts before this
abbrev pub first_wall : Option ℤ → ℕ → ℤ
first_wall None longest = FIRST_START
first_wall (Some after) longest = after -ℤ FARTHEST -ℤ pos longest

-- none that starts before the limit starts after this
abbrev pub last_wall : Option ℤ → ℤ
last_wall None = LAST_START
last_wall (Some before) = before +ℤ FARTHEST

-- what stands in an occurrence's place lasts no longer than so many wall seconds
abbrev pub lasts_up_to : ℕ → Option Span → Bool
lasts_up_to n None = true
lasts_up_to n (Some s) = nat_le (wall_seconds s.length) n
