-- JSON texts, as `serde_json` reads and writes them (RFC 8259, RFC 8620 section 1.5).
use Rattle.std.specs.Prelude.{ℕ, pos, List, [], ◌∷◌, Option, Some, None, option_map, option_and_then, if◌then◌else◌}
use Rattle.std.specs.Str.{is_utf8}
use Rattle.spec_json.specs.Data as own
use Rattle.spec_json.specs.Data.{Data, Items, Members, Pair, whole, text, truth, items_of, members_of}
use Rattle.serde_json.specs.Data as json
use Rattle.serde_json.specs.Find.{of_integer}
use Rattle.serde_json.specs.Read.{read}
use Rattle.serde_json.specs.Written.{compact_text}

-- A number that fits neither an i64 nor a u64 is read as a float, as are fractions, exponents and `-0`.
abbrev pub whole_number : json.Num → Option Data
whole_number (json.unsigned n) = Some (whole (pos n))
whole_number (json.negative z) = Some (whole z)
whole_number (json.float x) = None

-- the value, where all its numbers are whole
abbrev mutual
  pub whole_of : json.Data → Option Data
  whole_of json.null = Some own.null
  whole_of (json.boolean b) = Some (truth b)
  whole_of (json.number n) = whole_number n
  whole_of (json.string s) = Some (text s)
  whole_of (json.array ds) = option_map (λ es. own.list (items_of es)) (whole_items ds)
  whole_of (json.object ms) = option_map (λ ps. own.object (members_of ps)) (whole_members ms)

  pub whole_items : json.Items → Option (List Data)
  whole_items json.no_items = Some []
  whole_items (json.item d ds) = option_and_then (λ e. option_map (λ es. e ∷ es) (whole_items ds)) (whole_of d)

  pub whole_members : json.Members → Option (List Pair)
  whole_members json.no_members = Some []
  whole_members (json.member k d ms) = option_and_then (λ e. option_map (λ ps. (k, e) ∷ ps) (whole_members ms)) (whole_of d)

-- what bytes are read as
pub data Reading : Type 0 where
  not_json : Reading
  not_whole : Reading
  value : Data → Reading

abbrev pub reading_of_whole : Option Data → Reading
reading_of_whole None = not_whole
reading_of_whole (Some d) = value d

abbrev pub reading_of_json : Option json.Data → Reading
reading_of_json None = not_json
reading_of_json (Some d) = reading_of_whole (whole_of d)

-- bytes that aren't UTF-8 are no JSON
abbrev pub reading : List ℕ → Reading
reading bytes = if is_utf8 bytes then reading_of_json (read bytes) else not_json

-- the same value, as `serde_json` sees it
abbrev mutual
  pub json_of : Data → json.Data
  json_of own.null = json.null
  json_of (own.truth b) = json.boolean b
  json_of (own.whole z) = json.number (of_integer z)
  json_of (own.text s) = json.string s
  json_of (own.list ds) = json.array (json_items ds)
  json_of (own.object ms) = json.object (json_members ms)

  pub json_items : Items → json.Items
  json_items own.no_items = json.no_items
  json_items (own.item d ds) = json.item (json_of d) (json_items ds)

  pub json_members : Members → json.Members
  json_members own.no_members = json.no_members
  json_members (own.member k d ms) = json.member k (json_of d) (json_members ms)

-- the compact text
abbrev pub text_of : Data → List ℕ
text_of d = compact_text (json_of d)
