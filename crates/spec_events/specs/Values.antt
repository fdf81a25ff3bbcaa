-- Tests of the values of properties.
use Rattle.std.specs.Prelude.{ℕ, ℤ, List, ◌+◌, ◌*◌, ◌&&◌, ◌==◌, Bool, false, not, length, nat_le, int_le}
use Rattle.std.specs.Option.{option_map_or}
use Rattle.spec_events.specs.declared.limits.TheConstants.{FIRST_START, LAST_START, MAX_DEPTH, MAX_WALL_SECONDS}
use Rattle.spec_json.specs.Data.{Data, Pair, truth, list, object, depth, list_of, pairs_of}
use Rattle.spec_time.specs.Durations.{duration_in}
use Rattle.spec_time.specs.LocalTimes.{local_in}
use Rattle.spec_time.specs.declared.length.Length.{Length}
use Rattle.property_table.specs.Names.{has_name}
use Rattle.property_table.specs.Values.{is_text_that}

abbrev pub is_true : Data → Bool
is_true (truth b) = b
is_true _ = false

abbrev pub is_false : Data → Bool
is_false (truth b) = not b
is_false _ = false

-- one of these words
abbrev pub is_one_of : List (List ℕ) → Data → Bool
is_one_of words d = is_text_that (has_name words) d

-- a list whose items pass a test
abbrev pub is_list_that : (List Data → Bool) → Data → Bool
is_list_that pass (list ds) = pass (list_of ds)
is_list_that pass _ = false

-- an object whose members pass a test
abbrev pub is_object_that : (List Pair → Bool) → Data → Bool
is_object_that pass (object ms) = pass (pairs_of ms)
is_object_that pass _ = false

abbrev pub is_empty_list : Data → Bool
is_empty_list d = is_list_that (λ ds. length ds == 0) d

abbrev pub is_empty_object : Data → Bool
is_empty_object d = is_object_that (λ ps. length ps == 0) d

-- the value nests at most 60 deep
abbrev pub is_shallow : Data → Bool
is_shallow d = nat_le (depth d) MAX_DEPTH

-- the wall second lies in the years 1 to 9998: in every zone its moment is then in the years 0 to 9999
abbrev pub is_showing : ℤ → Bool
is_showing w = int_le FIRST_START w && int_le w LAST_START

-- a LocalDateTime (RFC 8984 section 1.4.5) in these years
abbrev pub is_start : List ℕ → Bool
is_start s = option_map_or is_showing (local_in s) false

-- all of a length in wall seconds, where a day has 86400, is at most 366 days
abbrev pub is_short_length : Length → Bool
is_short_length l = nat_le (86400 * l.days + l.seconds) MAX_WALL_SECONDS

-- a Duration (RFC 8984 section 1.4.6) of at most so many
abbrev pub is_short_duration : List ℕ → Bool
is_short_duration s = option_map_or is_short_length (duration_in s) false
