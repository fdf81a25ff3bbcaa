-- Titles of occurrences beside those of their events.
use Rattle.std.specs.Prelude.{◌≡◌, ◌==◌, ◌&&◌, ℕ, ℤ, Bool, true, false, not, List, [], Option, Some, None, Box, codes, is_some, nat_lt, unwrap_or}
use Rattle.std.specs.Global.{Global}
use Rattle.std.specs.List.{list_all}
use Rattle.std.specs.Option.{option_map_or}
use Rattle.spec_json.specs.Data.{Data}
use Rattle.spec_json.specs.Parts.{as_text}
use Rattle.spec_queries.specs.Items.{text_or_empty}
use Rattle.spec_recurrence.specs.Recurrence.{override_at}
use Rattle.spec_series.specs.SeriesLimits.{is_named}
use Rattle.spec_series.specs.declared.series.Series.{Series}
use Rattle.spec_time.specs.LocalTimes.{local_text}
use Rattle.spec_time.specs.Walls.{is_in_years}

-- its own title, or else that of the event
abbrev pub title_or : Data → Option (Box (List ℕ) Global) → List ℕ
title_or event own = option_map_or (λ b. b.value) own (text_or_empty (codes "title") event)

-- what no exception of the series names, no override of the event does
abbrev pub NamesOverrides : Series → Data → Type 0
NamesOverrides s event = (w : ℤ) → is_in_years w ≡ true → is_named s.exceptions w ≡ false → is_some (override_at (local_text w) event) ≡ false

-- the byte stands for itself in a pointer, and is ASCII
abbrev pub is_plain : ℕ → Bool
is_plain b = nat_lt b 128 && (not (b == 47) && not (b == 126))

-- a pointer with one part, which is the pointer itself
abbrev pub is_plain_name : List ℕ → Bool
is_plain_name key = list_all is_plain key

-- the title where a patch has this value for it, or none
abbrev pub title_by : Option Data → Data → List ℕ
title_by None event = text_or_empty (codes "title") event
title_by (Some value) event = unwrap_or (as_text value) []
