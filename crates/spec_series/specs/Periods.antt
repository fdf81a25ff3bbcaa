-- The periods of a recurrence rule: days, weeks, months or years (RFC 8984 section 4.3.3).
use Rattle.std.specs.Prelude.{ℕ, ◌==◌, Bool, ℤ, pos, ◌+ℤ◌, ◌-ℤ◌, ◌*ℤ◌}
use Rattle.spec_time.specs.Floor.{floor_div, modulo}
use Rattle.spec_time.specs.CivilDay.{day_number, month_length, year_of, month_of}
use Rattle.spec_series.specs.declared.by_part.Freq.{Freq}
use Rattle.spec_series.specs.declared.by_part.Freq.TheVariants.{Daily, Weekly, Monthly, Yearly}
use Rattle.spec_series.specs.declared.rule.Rule.{Rule}

-- the first and the last day of a day's month and of its year
unfoldable pub month_first : ℤ → ℤ
month_first n = day_number (year_of n) (month_of n) 1

unfoldable pub month_last : ℤ → ℤ
month_last n = day_number (year_of n) (month_of n) (month_length (year_of n) (month_of n))

unfoldable pub year_first : ℤ → ℤ
year_first n = day_number (year_of n) 1 1

unfoldable pub year_last : ℤ → ℤ
year_last n = day_number (year_of n) 12 31

-- the number of a day's period, where weeks begin on day w of the week
unfoldable pub period_by : Freq → ℕ → ℤ → ℤ
period_by Daily w n = n
period_by Weekly w n = floor_div (n +ℤ pos 3 -ℤ pos w) 7
period_by Monthly w n = pos 12 *ℤ year_of n +ℤ pos (month_of n) -ℤ pos 1
period_by Yearly w n = year_of n

-- the first day of its period
unfoldable pub period_first : Freq → ℕ → ℤ → ℤ
period_first Daily w n = n
period_first Weekly w n = n -ℤ pos (modulo (n +ℤ pos 3 -ℤ pos w) 7)
period_first Monthly w n = month_first n
period_first Yearly w n = year_first n

-- the last day of its period
unfoldable pub period_last : Freq → ℕ → ℤ → ℤ
period_last Daily w n = n
period_last Weekly w n = n -ℤ pos (modulo (n +ℤ pos 3 -ℤ pos w) 7) +ℤ pos 6
period_last Monthly w n = month_last n
period_last Yearly w n = year_last n

abbrev pub period_number : Rule → ℤ → ℤ
period_number r n = period_by r.frequency r.week_start n

-- the period of the day is one that the rule has: it is whole intervals away from that of the start's day
unfoldable pub is_in_phase : Rule → ℤ → ℤ → Bool
is_in_phase r start_day n = modulo (period_number r n) r.interval == modulo (period_number r start_day) r.interval
