-- Names and bearer tokens, as configurations and requests give them.
use Rattle.std.specs.Prelude.{ℕ, List, ◌&&◌, Bool, length, nat_le, nat_lt}
use Rattle.std.specs.Char.{is_ascii_graphic}
use Rattle.std.specs.List.{list_all}
use Rattle.spec_core.specs.declared.names.TheConstants.{MAX_NAME_BYTES}

-- a name of 1 to 255 bytes
abbrev pub is_name : List ℕ → Bool
is_name name = nat_lt 0 (length name) && nat_le (length name) MAX_NAME_BYTES

-- 1 to 255 bytes from `!` to `~`, which every token of RFC 6750 section 2.1 is
abbrev pub is_token : List ℕ → Bool
is_token text = nat_lt 0 (length text) && (nat_le (length text) MAX_NAME_BYTES && list_all is_ascii_graphic text)
