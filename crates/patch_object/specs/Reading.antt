-- What a reader of a key makes of the characters to come.
use Rattle.std.specs.Prelude.{ℕ, List, ◌++◌, Option, None, option_map, string_bytes}
use Rattle.spec_json.specs.Pointer.{parts_from, after_tilde}
use Rattle.patch_object.specs.declared.reader.Escape.{Escape}
use Rattle.patch_object.specs.declared.reader.Escape.TheVariants.{Whole, Begun, Bad}
use Rattle.patch_object.specs.declared.reader.Reader.{Reader}

abbrev pub parts_behind : Escape → List ℕ → List ℕ → Option (List (List ℕ))
parts_behind Whole part cs = parts_from part cs
parts_behind Begun part cs = after_tilde part cs
parts_behind Bad part cs = None

-- the parts that a reader ends with, where it reads these characters too
abbrev pub read_on : Reader → List ℕ → Option (List (List ℕ))
read_on r cs = option_map (λ ps. r.ended.items ++ ps) (parts_behind r.escape (string_bytes r.part) cs)
