-- The time zones of a configuration: names, each with its rule, a POSIX `TZ` string (RFC 9636 section 3.3.1).
use Rattle.std.specs.Prelude.{ℕ, List, [], ◌∷◌, ◌++◌, ◌&&◌, ◌||◌, Bool, not, Option, Some, None, is_some, codes, length, if◌then◌else◌}
use Rattle.std.specs.List.{list_any}
use Rattle.std.specs.Str.{bytes_eq}
use Rattle.spec_core.specs.Names.{is_name}
use Rattle.jiff_tz.specs.PosixReader.{read_whole}

-- a zone's name and its rule
abbrev pub ZoneText : Type 0
ZoneText = List ℕ × List ℕ

-- the name is that of a zone among these, or `Etc/UTC`, which is always there
abbrev pub has_zone : List ZoneText → List ℕ → Bool
has_zone zones name = bytes_eq name (codes "Etc/UTC") || list_any (λ z. bytes_eq z.0 name) zones

-- a zone that may stand behind these: its name is new, and `jiff` reads its rule
abbrev pub is_good_zone : List ZoneText → ZoneText → Bool
is_good_zone earlier z = (is_name z.0 && not (has_zone earlier z.0)) && is_some (read_whole z.1)

-- the place of the first zone that may not stand behind those before it, none where each may
abbrev pub first_bad_zone : List ZoneText → List ZoneText → Option ℕ
first_bad_zone earlier [] = None
first_bad_zone earlier (z ∷ zs) =
    if is_good_zone earlier z then first_bad_zone (earlier ++ z ∷ []) zs else Some (length earlier)
