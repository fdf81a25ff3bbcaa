-- The head of a request: where it ends, how it is read, and what it asks for (RFC 9112 sections 2, 3, 5 and 6).
use Rattle.std.specs.Prelude.{◌≡◌, ◌⊎◌, ℕ, suc, ◌≤◌, ◌<◌, ◌==◌, ◌&&◌, nat_lt, nat_le, List, [], ◌∷◌, Bool, false, Option, Some, None, option_map, is_some, if◌then◌else◌, length, take, map, count_by, codes}
use Rattle.std.specs.Option.{option_or}
use Rattle.std.specs.Str.{bytes_eq}
use Rattle.httparse.specs.Grammar.{RequestHead, ReadsRequest}
use Rattle.httparse.specs.Spans.{name_and_value}
use Rattle.spec_core.specs.declared.limits.TheConstants.{MAX_SIZE_REQUEST}
use Rattle.spec_http.specs.declared.limits.TheConstants.{MAX_FIELDS, MAX_HEAD, MAX_LINES}
use Rattle.spec_http.specs.Fields.{NamedValue, values_of, first_value, length_said, Length, absent, known, unusable}

-- ---- where a head ends

abbrev pub begins_with_feed : List ℕ → Bool
begins_with_feed [] = false
begins_with_feed (b ∷ bytes) = b == 10

-- the length of the line end that the bytes begin with: a line feed, or CR and a line feed (section 2.2)
abbrev pub line_end_length : List ℕ → Option ℕ
line_end_length [] = None
line_end_length (b ∷ bytes) = if b == 10 then Some 1 else (if (b == 13) && begins_with_feed bytes then Some 2 else None)

abbrev pub later : Option ℕ → Option ℕ
later = option_map suc

-- the length of the head: it ends with the line end that stands behind a line feed, the first such
unfoldable pub head_length : List ℕ → Option ℕ
head_length [] = None
head_length (b ∷ bytes) = if b == 10 then later (option_or (line_end_length bytes) (head_length bytes)) else later (head_length bytes)

pub data HeadEnd : Type 0 where
  ended : ℕ → HeadEnd
  too_long : HeadEnd
  unended : HeadEnd

abbrev pub end_at : Option ℕ → List ℕ → HeadEnd
end_at (Some size) bytes = ended size
end_at None bytes = if nat_le MAX_HEAD (length bytes) then too_long else unended

-- the head ends within the most bytes of a head, or it is too long, or it may end yet
abbrev pub head_end : List ℕ → HeadEnd
head_end bytes = end_at (head_length (take MAX_HEAD bytes)) bytes

-- ---- how it is read

abbrev pub line_feeds : List ℕ → ℕ
line_feeds bytes = count_by (λ b. b == 10) bytes

-- the bytes are just this head, and it has no more fields than a head may have
abbrev pub IsHead : List ℕ → RequestHead → Type 0
IsHead bytes head = ReadsRequest bytes head [] × (length head.fields ≤ MAX_FIELDS)

-- nor has it more line feeds
pub record ReadsHead (bytes : List ℕ) (head : RequestHead) : Type 0 where
  pub few_lines : line_feeds bytes ≤ MAX_LINES
  pub is_head : IsHead bytes head

-- ---- what it asks for

abbrev pub fields_of : RequestHead → List NamedValue
fields_of head = map name_and_value head.fields

-- how many bytes of body follow, or the status with which the head is refused (section 6.3)
pub data Framing : Type 0 where
  body : ℕ → Framing
  refuse : ℕ → Framing

abbrev pub framing_by_length : List ℕ → Length → Framing
framing_by_length method unusable = refuse 400
framing_by_length method absent = if bytes_eq method (codes "POST") then refuse 411 else body 0
framing_by_length method (known n) = if nat_lt MAX_SIZE_REQUEST n then refuse 413 else body n

-- no transfer coding is taken
abbrev pub framing : List ℕ → List NamedValue → Framing
framing method fields = if is_some (first_value (values_of (codes "transfer-encoding") fields)) then refuse 501 else framing_by_length method (length_said (values_of (codes "content-length") fields))

-- the bytes of a head are refused with this status
abbrev pub RefusesHead : List ℕ → ℕ → Type 0
RefusesHead bytes status =
    ((status ≡ 431) × (MAX_LINES < line_feeds bytes))
    ⊎ (((status ≡ 400) × (line_feeds bytes ≤ MAX_LINES) × ((head : RequestHead) → IsHead bytes head → ⊥))
    ⊎ ((head : RequestHead) × ReadsHead bytes head × (framing head.method (fields_of head) ≡ refuse status)))
