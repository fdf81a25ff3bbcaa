-- Durations as texts (RFC 8984 section 1.4.6, without fractions of a second): days, and seconds beside them.
use Rattle.std.specs.Prelude.{ℕ, List, [], ◌∷◌, ◌+◌, ◌-◌, ◌*◌, ◌<◌, ◌==◌, ◌&&◌, Bool, Option, Some, None, length, nat_le, option_and_then, option_map, slice_index, take, if◌then◌else◌}
use Rattle.std.specs.Char.{is_ascii_digit}
use Rattle.std.specs.List.{list_all}
use Rattle.std.specs.Option.{option_or}
use Rattle.spec_json.specs.Number.{value_of_digits}
use Rattle.spec_time.specs.Walls.{hour_seconds}
use Rattle.spec_time.specs.declared.length.Length.{Length}

-- as short as every length that is read
abbrev pub IsShortLength : Length → Type 0
IsShortLength l = (l.days < 10000000000) × (l.seconds < 10000000000000)

abbrev pub length_of : ℕ → ℕ → Length
length_of days seconds = record { days = days; seconds = seconds }

-- Forms of texts, as the grammar puts them together.

-- the length that a text of the form says; none for a text that isn't of it
abbrev pub Form : Type 0
Form = List ℕ → Option Length

-- two lengths together, where there are both
abbrev pub together : Option Length → Option Length → Option Length
together a b = option_and_then (λ x. option_map (λ y. length_of (x.days + y.days) (x.seconds + y.seconds)) b) a

-- a text of the one form and then one of the other; the first ends before a byte or goes on with it
unfoldable pub followed_by : Form → Form → Form
followed_by f g [] = together (f []) (g [])
followed_by f g (b ∷ bs) = option_or (together (f []) (g (b ∷ bs))) (followed_by (λ rest. f (b ∷ rest)) g bs)

-- a text of either form
abbrev pub either : Form → Form → Form
either f g s = option_or (f s) (g s)

-- nothing, or a text of the form
abbrev pub or_nothing : Form → Form
or_nothing f [] = Some (length_of 0 0)
or_nothing f (b ∷ bs) = f (b ∷ bs)

-- a letter and then a text of the form
abbrev pub after_letter : ℕ → Form → Form
after_letter letter f [] = None
after_letter letter f (b ∷ bs) = if b == letter then f bs else None

-- a number of 1 to 9 digits
abbrev pub is_number : List ℕ → Bool
is_number s = (nat_le 1 (length s) && nat_le (length s) 9) && list_all is_ascii_digit s

abbrev pub all_but_last : List ℕ → List ℕ
all_but_last s = take (length s - 1) s

abbrev pub is_part : ℕ → List ℕ → Bool
is_part letter s = is_number (all_but_last s) && (slice_index s (length s - 1) == letter)

-- a number and then a letter, which tells how long so many are
unfoldable pub part : ℕ → (ℕ → Length) → Form
part letter lengths s = if is_part letter s then Some (lengths (value_of_digits (all_but_last s))) else None

-- The grammar. Minutes may be left out between hours and seconds.

abbrev pub dur_second : Form
dur_second = part 83 (λ n. length_of 0 n)

abbrev pub dur_minute : Form
dur_minute = followed_by (part 77 (λ n. length_of 0 (60 * n))) (or_nothing dur_second)

abbrev pub dur_hour : Form
dur_hour = followed_by (part 72 (λ n. length_of 0 (hour_seconds * n))) (or_nothing (either dur_minute dur_second))

-- `T`, and then hours, minutes and seconds
abbrev pub dur_time : Form
dur_time = after_letter 84 (either dur_hour (either dur_minute dur_second))

abbrev pub dur_day : Form
dur_day = followed_by (part 68 (λ n. length_of n 0)) (or_nothing dur_time)

abbrev pub dur_week : Form
dur_week = followed_by (part 87 (λ n. length_of (7 * n) 0)) (or_nothing (either dur_day dur_time))

-- the length that a Duration names: `P`, and then weeks, days and the time
unfoldable pub duration_in : List ℕ → Option Length
duration_in = after_letter 80 (either dur_week (either dur_day dur_time))
