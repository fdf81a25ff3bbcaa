-- Synthetic ids: the id of an event, `_`, and a recurrence id without its `-` and `:` (draft JMAP for Calendars).
use Rattle.std.specs.Prelude.{◌≡◌, ◌-◌, ◌==◌, ◌&&◌, ℕ, ℤ, List, ◌∷◌, ◌++◌, Bool, not, Option, Some, None, drop, filter, length, nat_le, option_and_then, option_map, slice_index, take, if◌then◌else◌}
use Rattle.spec_history.specs.ObjectId.{id_text, object_number}
use Rattle.spec_history.specs.declared.entry.Kind.TheVariants.{Event}
use Rattle.spec_time.specs.LocalTimes.{local_in, local_text}

-- neither `-` nor `:`
abbrev pub is_no_separator : ℕ → Bool
is_no_separator b = not (b == 45) && not (b == 58)

-- `YYYYMMDDThhmmss`
abbrev pub compact_text : ℤ → List ℕ
compact_text w = filter is_no_separator (local_text w)

-- the bytes from place i on, n of them
abbrev pub part_at : ℕ → ℕ → List ℕ → List ℕ
part_at i n s = take n (drop i s)

-- `YYYYMMDDThhmmss` with its separators
unfoldable pub separated : List ℕ → List ℕ
separated s = part_at 0 4 s ++ 45 ∷ part_at 4 2 s ++ 45 ∷ part_at 6 5 s ++ 58 ∷ part_at 11 2 s ++ 58 ∷ part_at 13 2 s

-- the wall second that such a text names
abbrev pub compact_in : List ℕ → Option ℤ
compact_in s = if length s == 15 then local_in (separated s) else None

abbrev pub occurrence_id_text : ℕ → ℤ → List ℕ
occurrence_id_text n w = id_text Event n ++ 95 ∷ compact_text w

abbrev pub both_of : Option ℕ → Option ℤ → Option (ℕ × ℤ)
both_of n w = option_and_then (λ m. option_map (λ v. (m, v)) w) n

-- what stands before the last 16 bytes, and behind the first of these
abbrev pub event_part : List ℕ → List ℕ
event_part s = take (length s - 16) s

abbrev pub time_part : List ℕ → List ℕ
time_part s = drop (length s - 15) s

-- the number of the event and the recurrence id that a synthetic id names
abbrev pub occurrence_id_in : List ℕ → Option (ℕ × ℤ)
occurrence_id_in s = if nat_le 16 (length s) && (slice_index s (length s - 16) == 95) then both_of (object_number Event (event_part s)) (compact_in (time_part s)) else None

-- a synthetic id that was written is read back
abbrev pub IsIdReadBack : ℕ → ℤ → Type 0
IsIdReadBack n w = occurrence_id_in (occurrence_id_text n w) ≡ Some (n, w)
