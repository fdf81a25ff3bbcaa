use Rattle.std.proofs.Common.{◌≡◌, ◌+◌, ◌^◌, ◌<◌, drop, map, option_map}
use Rattle.json_edge.specs.Lengths.{saturated}
use Rattle.spec_json.specs.TreeData.{pair_of}
use Rattle.spec_batch.specs.References.{size_of_values}
use Rattle.result_refs.specs.Sizes.{size_in, values_in}
use Rattle.result_refs.proofs.arguments.size_of_references.Given as goal

abbrev pub invariant-loop-member : goal.invariant-loop-member
invariant-loop-member l = record {
  sum : option_map (λ vs. saturated (l.size + size_of_values vs)) (values_in l.responses (map pair_of (drop l.member-index l.member-items))) ≡ size_in l.responses l.arguments;
  small : l.size < 2 ^ 64;
}
