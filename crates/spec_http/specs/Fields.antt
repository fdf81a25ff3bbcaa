-- What the fields of a request say (RFC 9110 sections 5.1, 8.6 and 11.6.2, RFC 9112 sections 6.3 and 9.6).
use Rattle.std.specs.Prelude.{ℕ, ◌==◌, ◌&&◌, ◌||◌, nat_lt, nat_le, List, [], ◌∷◌, Bool, Option, Some, None, option_and_then, if◌then◌else◌, length, take, drop, codes}
use Rattle.std.specs.List.{flat_map, list_all, list_any}
use Rattle.std.specs.Str.{bytes_eq, all_ascii_digits, str_to_ascii_lowercase}
use Rattle.std.specs.Str.Parse.{digits_value}
use Rattle.spec_core.specs.Names.{is_token}

-- a field: its name, and its value without the white space around it
abbrev pub NamedValue : Type 0
NamedValue = List ℕ × List ℕ

-- the same in any case of ASCII letters
abbrev pub same_word : List ℕ → List ℕ → Bool
same_word a b = bytes_eq (str_to_ascii_lowercase a) (str_to_ascii_lowercase b)

abbrev pub value_if_named : List ℕ → NamedValue → List (List ℕ)
value_if_named name field = if same_word field.0 name then field.1 ∷ [] else []

-- the values of the fields of this name, in order
abbrev pub values_of : List ℕ → List NamedValue → List (List ℕ)
values_of name fields = flat_map (value_if_named name) fields

abbrev pub first_value : List (List ℕ) → Option (List ℕ)
first_value [] = None
first_value (v ∷ vs) = Some v

-- ---- Content-Length

-- 1 to 19 digits
abbrev pub is_length : List ℕ → Bool
is_length value = nat_lt 0 (length value) && (nat_le (length value) 19 && all_ascii_digits value)

-- what all fields say of the length together
pub data Length : Type 0 where
  absent : Length
  known : ℕ → Length
  unusable : Length

abbrev pub is_length_of : ℕ → List ℕ → Bool
is_length_of n value = is_length value && (digits_value 10 value == n)

-- every value is such a number, and all are equal as numbers
abbrev pub length_said : List (List ℕ) → Length
length_said [] = absent
length_said (v ∷ vs) = if list_all (is_length_of (digits_value 10 v)) (v ∷ vs) then known (digits_value 10 v) else unusable

-- ---- Connection and Authorization

abbrev pub says_close : List ℕ → Bool
says_close value = same_word value (codes "close")

-- a message of version 1.0 asks to close too
abbrev pub asks_close : ℕ → List NamedValue → Bool
asks_close minor fields = (minor == 0) || list_any says_close (values_of (codes "connection") fields)

-- what follows `Bearer ` (RFC 6750 section 2.1), where that is a token
abbrev pub bearer_token : List ℕ → Option (List ℕ)
bearer_token value = if same_word (take 7 value) (codes "bearer ") && is_token (drop 7 value) then Some (drop 7 value) else None

-- the token of the first `Authorization`
abbrev pub token_of : List NamedValue → Option (List ℕ)
token_of fields = option_and_then bearer_token (first_value (values_of (codes "authorization") fields))
