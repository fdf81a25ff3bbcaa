use Rattle.std.proofs.Common.{◌≡◌, ◌<◌, ◌^◌, take}
use Rattle.spec_json.specs.Number.{value_of_digits}
use Rattle.time_text.proofs.duration.value_of.Given as goal

abbrev pub invariant-loop-digit : goal.invariant-loop-digit
invariant-loop-digit l = record {
  value : l.value ≡ value_of_digits (take l.digit-index l.digits);
  bound : l.value < 10 ^ l.digit-index;
}
