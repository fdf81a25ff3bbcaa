-- The bytes of a text, by its form.
use Rattle.std.specs.Prelude.{ℕ, List, string_bytes}
use Rattle.spec_json.specs.declared.text.Form.{Form}
use Rattle.spec_json.specs.declared.text.Form.TheVariants.{Short, Middle, Long}

abbrev pub form_bytes : Form → List ℕ
form_bytes (Short text) = text
form_bytes (Middle text) = text.value
form_bytes (Long text) = string_bytes text.value
