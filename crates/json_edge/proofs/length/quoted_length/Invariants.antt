use Rattle.std.proofs.Common.{◌≡◌, ◌+◌, ◌^◌, ◌<◌, drop, length}
use Rattle.json.specs.Print.{escape, quoted}
use Rattle.json_edge.specs.Lengths.{saturated}
use Rattle.json_edge.proofs.length.quoted_length.Given as goal

abbrev pub invariant-loop-byte : goal.invariant-loop-byte
invariant-loop-byte l = record {
  sum : saturated (l.size + length (escape (drop l.byte-index l.byte-items))) ≡ saturated (length (quoted l.text));
  small : l.size < 2 ^ 64;
}
