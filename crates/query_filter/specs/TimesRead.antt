-- Times of a filter that were read.
use Rattle.std.specs.Prelude.{List, Bool, false, option_and_then}
use Rattle.std.specs.List.{list_all}
use Rattle.std.specs.Option.{option_map_or}
use Rattle.std.specs.Ordering.{int_eq}
use Rattle.jiff_tz.specs.PosixText.{TzText}
use Rattle.spec_time.specs.LocalTimes.{local_in}
use Rattle.spec_windows.specs.Clocks.{instant_in}
use Rattle.query_filter.specs.declared.clock.TimeRead.{TimeRead}

-- the instant is that of the text
abbrev pub is_time : TzText → TimeRead → Bool
is_time rule t = option_map_or (int_eq t.instant) (option_and_then (instant_in rule) (local_in t.text)) false

abbrev pub are_times : TzText → List TimeRead → Bool
are_times rule ts = list_all (is_time rule) ts
