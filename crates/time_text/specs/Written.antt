-- Dates that are written with two digits to each part.
use Rattle.std.specs.Prelude.{◌≤◌}
use Rattle.spec_time.specs.LocalTimes.{last_year}
use Rattle.time_text.specs.declared.text.Date.{Date}

abbrev pub IsTwoDigits : Date → Type 0
IsTwoDigits d = (d.year ≤ last_year) × (d.month ≤ 12) × (d.day ≤ 31)
