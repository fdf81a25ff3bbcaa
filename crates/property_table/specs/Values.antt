-- Tests of values that more than one table has.
use Rattle.std.specs.Prelude.{ℕ, pos, List, ◌&&◌, Bool, false, is_some, int_le}
use Rattle.spec_core.specs.declared.numbers.TheConstants.{MAX_UNSIGNED_INT}
use Rattle.spec_json.specs.Data.{Data, text, whole}
use Rattle.spec_json.specs.Parts.{as_text, as_truth}

abbrev pub is_text : Data → Bool
is_text d = is_some (as_text d)

abbrev pub is_truth : Data → Bool
is_truth d = is_some (as_truth d)

-- a text that passes a test
abbrev pub is_text_that : (List ℕ → Bool) → Data → Bool
is_text_that passes (text s) = passes s
is_text_that passes _ = false

-- an UnsignedInt (RFC 8620 section 1.3)
abbrev pub is_unsigned_int : Data → Bool
is_unsigned_int (whole n) = int_le (pos 0) n && int_le n (pos MAX_UNSIGNED_INT)
is_unsigned_int _ = false
