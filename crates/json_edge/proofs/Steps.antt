-- What bytes that are a text are read as, and what tokens are printed as.
use Rattle.std.proofs.Common.{◌≡◌, ℕ, List, Some, refl}
use Rattle.spec_json.specs.Data.{Data}
use Rattle.serde_json.specs.Data as json
use Rattle.json.specs.Print.{print}
use Rattle.serde_json.proofs.Texts.{print-outline}
use Rattle.spec_json.specs.Json.{json_of, text_of}
use Rattle.json_edge.specs.Tokens.{tokens_of}
use Rattle.spec_json.specs.Json.{whole_of, reading, reading_of_whole}
use Rattle.serde_json.specs.Read.{read}
use Rattle.std.specs.Str.{IsUtf8}
use Rattle.std.proofs.lemmas.Str.{is_utf8-from_IsUtf8}

pub reading_some : (bytes : List ℕ) (d : json.Data) → IsUtf8 bytes → read bytes ≡ Some d → reading bytes ≡ reading_of_whole (whole_of d)
reading_some bytes d u h = rw (is_utf8-from_IsUtf8 bytes u, h) refl

pub text_printed : (d : Data) → print (tokens_of d) ≡ text_of d
text_printed d = print-outline (json_of d)
