-- Ids (RFC 8620 section 1.2).
use Rattle.std.specs.Prelude.{ℕ, List, ◌==◌, ◌&&◌, ◌||◌, Bool, length, nat_lt}
use Rattle.std.specs.Char.{is_ascii_alphanumeric}
use Rattle.std.specs.List.{list_all}

-- a letter, a digit, `-` or `_`
abbrev pub is_id_byte : ℕ → Bool
is_id_byte b = is_ascii_alphanumeric b || ((b == 45) || (b == 95))

-- an Id: 1 to 255 such bytes
abbrev pub is_id : List ℕ → Bool
is_id s = (nat_lt 0 (length s) && nat_lt (length s) 256) && list_all is_id_byte s
