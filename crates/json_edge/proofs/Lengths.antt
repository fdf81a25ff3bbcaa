-- The lengths of compact texts, part by part.
use Rattle.std.proofs.Common.{◌≡◌, ℕ, ◌+◌, max, List, [], ◌∷◌, ◌++◌, true, length, arith}
use Rattle.std.proofs.lemmas.List.{length-append}
use Rattle.json.specs.Print.{quoted}
use Rattle.serde_json.specs.Written.{items_text, members_text}
use Rattle.spec_json.specs.Data.{Data, Pair, list, object, items_of, members_of}
use Rattle.spec_json.specs.Json.{json_items, json_members, text_of}
use Rattle.json_edge.specs.Lengths.{size_of_items, size_of_members}

later_items : (ds : List Data) → length (items_text true (json_items (items_of ds))) ≡ 1 + size_of_items ds
later_items [] = omega arith
later_items (d ∷ ds) = omega (arith, length-append (text_of d) (items_text true (json_items (items_of ds))), later_items ds)

pub list_length : (ds : List Data) → length (text_of (list (items_of ds))) ≡ 1 + max 1 (size_of_items ds)
list_length [] = omega arith
list_length (d ∷ ds) = omega (arith, length-append (text_of d) (items_text true (json_items (items_of ds))), later_items ds)

after_key : (key text rest : List ℕ) → length (key ++ 58 ∷ (text ++ rest)) ≡ length key + 1 + length text + length rest
after_key key text rest = omega (arith, length-append key (58 ∷ (text ++ rest)), length-append text rest)

later_members : (ps : List Pair) → length (members_text true (json_members (members_of ps))) ≡ 1 + size_of_members ps
later_members [] = omega arith
later_members (p ∷ ps) = omega (arith, after_key (quoted p.0) (text_of p.1) (members_text true (json_members (members_of ps))), later_members ps)

pub object_length : (ps : List Pair) → length (text_of (object (members_of ps))) ≡ 1 + max 1 (size_of_members ps)
object_length [] = omega arith
object_length (p ∷ ps) = omega (arith, after_key (quoted p.0) (text_of p.1) (members_text true (json_members (members_of ps))), later_members ps)
