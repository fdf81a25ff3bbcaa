use Rattle.std.proofs.Common.{◌≡◌, ◌<◌, ◌^◌, drop}
use Rattle.std.specs.Str.{all_ascii_digits}
use Rattle.std.specs.Str.Parse.{digits_value, digits_value_after}
use Rattle.http_edge.proofs.fields.read_length.Given as goal

abbrev pub invariant-loop-byte : goal.invariant-loop-byte
invariant-loop-byte l = (digits_value_after 10 l.number (drop l.byte-index l.value) ≡ digits_value 10 l.value)
    × (all_ascii_digits (drop l.byte-index l.value) ≡ all_ascii_digits l.value) × (l.number < 10 ^ l.byte-index)
