-- Paths whose parts are strings.
use Rattle.std.specs.Prelude.{ℕ, List, Bool, String as AnyString, map, string_bytes}
use Rattle.std.specs.Cmp.Lexicographic.{slice_cmp}
use Rattle.std.specs.Global.{Global, Vec}
use Rattle.std.specs.List.{list_any}
use Rattle.std.specs.Ordering.{is_eq}
use Rattle.std.specs.String.{string_cmp}

abbrev pub String : Type 0
String = AnyString Global

abbrev pub string_parts : Vec String → List (List ℕ)
string_parts v = map string_bytes v.items

-- one of the paths has these parts
abbrev pub has_path : List String → List (Vec String) → Bool
has_path parts paths = list_any (λ v. is_eq (slice_cmp string_cmp parts v.items)) paths
