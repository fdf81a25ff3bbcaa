-- Periods that UTCDates can tell.
use Rattle.std.specs.Prelude.{◌≡◌, ℕ, List, true, slice_get, Some}
use Rattle.spec_time.specs.Walls.{is_in_years}
use Rattle.spec_windows.specs.declared.period.Period.{Period}

-- both ends lie in the years 0 to 9999
pub record IsInYears (p : Period) : Type 0 where
  pub from : is_in_years p.from ≡ true
  pub to : is_in_years p.to ≡ true

abbrev pub AreInYears : List Period → Type 0
AreInYears ps = (k : ℕ) (p : Period) → slice_get ps k ≡ Some p → IsInYears p
